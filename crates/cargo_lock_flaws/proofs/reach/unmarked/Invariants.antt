use Rattle.std.proofs.Common.{◌≡◌, false, Some, slice_get}
use Rattle.lists.specs.Places.{IsPlaces}
use Rattle.cargo_lock_flaws.proofs.reach.unmarked.Given as goal

abbrev pub invariant-loop-place : goal.invariant-loop-place
invariant-loop-place l = IsPlaces (λ k. slice_get l.marks k ≡ Some false) l.place l.places.items
