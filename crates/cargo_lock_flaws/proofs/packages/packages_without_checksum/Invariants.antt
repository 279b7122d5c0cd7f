use Rattle.cargo_lock_flaws.specs.Packages.{IsWithoutChecksum}
use Rattle.lists.specs.Places.{IsPlaces}
use Rattle.cargo_lock_flaws.proofs.packages.packages_without_checksum.Given as goal

abbrev pub invariant-loop-place : goal.invariant-loop-place
invariant-loop-place l = IsPlaces (IsWithoutChecksum l.packages) l.place l.places.items
