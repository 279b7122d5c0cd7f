use Rattle.std.proofs.Common.{take}
use Rattle.cargo_lock_merge.specs.Moved.{AreNamedMoved}
use Rattle.cargo_lock_merge.proofs.moved.with_identities.Given as goal

-- the references so far
abbrev pub invariant-loop-one : goal.invariant-loop-one
invariant-loop-one l = AreNamedMoved (take l.one-index l.found) l.all.items
