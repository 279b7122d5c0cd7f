use Rattle.std.proofs.Common.{length}
use Rattle.lists.specs.Reach.{IsSearch, left_count}
use Rattle.cargo_lock_merge_core.specs.Reach.{EdgeAt, RootAt}
use Rattle.cargo_lock_merge_core.proofs.reach.reached.Given as goal

abbrev pub invariant-loop-at : goal.invariant-loop-at
invariant-loop-at l = IsSearch (RootAt l.nodes) (EdgeAt l.nodes) (length l.nodes) l.search

abbrev pub decreases-loop-at : goal.decreases-loop-at
decreases-loop-at l = left_count l.search
