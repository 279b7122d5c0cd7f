use Rattle.std.proofs.Common.{ℕ}
use Rattle.cargo_lock_merge_core.specs.Kept.{AreSoFar}
use Rattle.cargo_lock_merge_core.specs.Merge.{Triple}
use Rattle.cargo_lock_merge_core.specs.Merged.{HasPlan}
use Rattle.cargo_lock_merge_core.proofs.merged.merged_packages.Given as goal

abbrev pub invariant-loop-at : goal.invariant-loop-at
invariant-loop-at l = (s : Triple ℕ) → HasPlan s l.plan → AreSoFar l.plan l.at l.all.items
