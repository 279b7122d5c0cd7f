use Rattle.std.proofs.Common.{◌≡◌, [], drop}
use Rattle.cargo_lock_references.specs.declared.version.ResolveVersion.TheVariants.{V1}
use Rattle.cargo_lock_encoding.specs.Meaning.{listed_package}
use Rattle.cargo_lock_parts.specs.Optional.{map_all}
use Rattle.cargo_lock_references.proofs.Walk.{after}
use Rattle.cargo_lock_encoding.proofs.meaning.each_in_full.Given as goal

abbrev pub invariant-loop-encoded : goal.invariant-loop-encoded
invariant-loop-encoded l =
    after l.found.items (map_all (listed_package V1 [] l.metadata) (drop l.encoded-index l.listed))
    ≡ map_all (listed_package V1 [] l.metadata) l.listed
