use Rattle.cargo_lock_flaws.specs.Names.{IsBadlyNamed}
use Rattle.lists.specs.Places.{IsPlaces}
use Rattle.cargo_lock_flaws.proofs.names.badly_named_packages.Given as goal

abbrev pub invariant-loop-place : goal.invariant-loop-place
invariant-loop-place l = IsPlaces (IsBadlyNamed l.packages) l.place l.places.items
