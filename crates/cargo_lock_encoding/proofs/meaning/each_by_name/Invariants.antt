use Rattle.std.proofs.Common.{◌≡◌, drop, map}
use Rattle.cargo_lock_encoding.specs.Meaning.{package_of}
use Rattle.cargo_lock_parts.specs.Optional.{map_all}
use Rattle.cargo_lock_references.specs.Records.{encoded_identity}
use Rattle.cargo_lock_references.proofs.Walk.{after}
use Rattle.cargo_lock_encoding.proofs.meaning.each_by_name.Given as goal

abbrev pub invariant-loop-encoded : goal.invariant-loop-encoded
invariant-loop-encoded l =
    after l.packages.items (map_all (λ e. package_of (map encoded_identity l.list) e.checksum e) (drop l.encoded-index l.listed))
    ≡ map_all (λ e. package_of (map encoded_identity l.list) e.checksum e) l.listed
