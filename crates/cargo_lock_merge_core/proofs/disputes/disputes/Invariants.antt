use Rattle.cargo_lock_merge_core.proofs.Disputing.{AreSourcesSoFar}
use Rattle.cargo_lock_merge_core.proofs.disputes.disputes.Given as goal

-- the sources of the entries so far
abbrev pub invariant-loop-at : goal.invariant-loop-at
invariant-loop-at l = AreSourcesSoFar l.plan l.commits l.at l.all.items l.seen
