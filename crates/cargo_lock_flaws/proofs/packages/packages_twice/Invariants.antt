use Rattle.cargo_lock_flaws.specs.Packages.{IsTwice}
use Rattle.lists.specs.Places.{IsPlaces}
use Rattle.cargo_lock_flaws.proofs.packages.packages_twice.Given as goal

abbrev pub invariant-loop-place : goal.invariant-loop-place
invariant-loop-place l = IsPlaces (IsTwice l.packages) l.place l.places.items
