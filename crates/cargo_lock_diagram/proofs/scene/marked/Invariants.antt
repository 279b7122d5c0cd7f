use Rattle.lists.specs.Marks.{IsMarked}
use Rattle.lists.specs.Places.{IsPlaces}
use Rattle.cargo_lock_diagram.proofs.scene.marked.Given as goal

-- the nodes so far
abbrev pub invariant-loop-place : goal.invariant-loop-place
invariant-loop-place l = IsPlaces (IsMarked l.marks) l.place l.nodes.items
