use Rattle.std.proofs.Common.{take}
use Rattle.cargo_lock_merge.specs.Moved.{AreMarkedMoved}
use Rattle.cargo_lock_merge.proofs.moved.marked.Given as goal

-- the references so far
abbrev pub invariant-loop-one : goal.invariant-loop-one
invariant-loop-one l = AreMarkedMoved l.packages (take l.one-index l.named) l.all.items
