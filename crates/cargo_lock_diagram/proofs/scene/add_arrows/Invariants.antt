use Rattle.std.proofs.Common.{◌≡◌, ◌++◌, take}
use Rattle.cargo_lock_diagram.specs.Arrows.{arrows_to}
use Rattle.cargo_lock_diagram.proofs.scene.add_arrows.Given as goal

-- the arrows to the targets so far
abbrev pub invariant-loop-target : goal.invariant-loop-target
invariant-loop-target l = l.arrows.items ≡ l.fn.arrows.items ++ arrows_to l.marks l.node (take l.target-index l.targets)
