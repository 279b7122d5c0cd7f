use Rattle.std.proofs.Common.{◌≡◌, drop, map}
use Rattle.cargo_lock_parts.specs.Optional.{map_all}
use Rattle.cargo_lock_references.specs.Records.{encoded_identity}
use Rattle.cargo_lock_references.specs.ResolutionSearch.{resolution_of}
use Rattle.cargo_lock_references.proofs.Walk.{after}
use Rattle.cargo_lock_encoding.proofs.meaning.resolve_all.Given as goal

abbrev pub invariant-loop-reference : goal.invariant-loop-reference
invariant-loop-reference l =
    after l.dependencies.items (map_all (λ f. resolution_of f (map encoded_identity l.list)) (drop l.reference-index l.references))
    ≡ map_all (λ f. resolution_of f (map encoded_identity l.list)) l.references
