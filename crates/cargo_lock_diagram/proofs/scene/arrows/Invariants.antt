use Rattle.cargo_lock_diagram.specs.Arrows.{AreArrows}
use Rattle.cargo_lock_diagram.proofs.scene.arrows.Given as goal

-- the arrows from the nodes so far
abbrev pub invariant-loop-place : goal.invariant-loop-place
invariant-loop-place l = AreArrows l.graph l.marks l.place l.arrows.items
