use Rattle.lists.specs.Marks.{IsMarked}
use Rattle.lists.specs.Places.{IsPlaces}
use Rattle.cargo_lock_bom.proofs.root.marked_places.Given as goal

abbrev pub invariant-loop-place : goal.invariant-loop-place
invariant-loop-place l = IsPlaces (IsMarked l.marks) l.place l.places.items
