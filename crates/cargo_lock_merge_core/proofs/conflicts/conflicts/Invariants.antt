use Rattle.std.proofs.Common.{ℕ}
use Rattle.cargo_lock_merge_core.specs.Merge.{Triple}
use Rattle.cargo_lock_merge_core.specs.Merged.{HasPlan}
use Rattle.cargo_lock_merge_core.proofs.Conflicting.{AreFound}
use Rattle.cargo_lock_merge_core.proofs.conflicts.conflicts.Given as goal

-- the conflicts of the entries so far
abbrev pub invariant-loop-at : goal.invariant-loop-at
invariant-loop-at l = (s : Triple ℕ) → HasPlan s l.plan → AreFound l.plan l.commits l.kind l.at l.all.items
