use Rattle.std.proofs.Common.{◌≡◌, ◌<◌, ℕ, true}
use Rattle.cargo_lock_bom.specs.Root.{is_member}
use Rattle.lists.specs.Marks.{IsMarked}
use Rattle.cargo_lock_bom.proofs.root.have_marks.Given as goal

-- each package of the workspace so far has a mark
abbrev pub invariant-loop-node : goal.invariant-loop-node
invariant-loop-node l = (k : ℕ) → k < l.node → is_member l.graph.packages k ≡ true → IsMarked l.marks k
