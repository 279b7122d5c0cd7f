use Rattle.cargo_lock_merge_core.proofs.Moving.{AreFirst}
use Rattle.cargo_lock_merge_core.proofs.moved.moved_from.Given as goal

-- those of the dependencies so far
abbrev pub invariant-loop-to : goal.invariant-loop-to
invariant-loop-to l = AreFirst l.ours l.theirs l.merged l.one l.to-index l.all.items
