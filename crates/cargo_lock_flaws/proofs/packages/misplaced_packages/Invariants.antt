use Rattle.cargo_lock_flaws.specs.Packages.{IsMisplaced}
use Rattle.lists.specs.Places.{IsPlaces}
use Rattle.cargo_lock_flaws.proofs.packages.misplaced_packages.Given as goal

abbrev pub invariant-loop-place : goal.invariant-loop-place
invariant-loop-place l = IsPlaces (IsMisplaced l.packages) l.place l.places.items
