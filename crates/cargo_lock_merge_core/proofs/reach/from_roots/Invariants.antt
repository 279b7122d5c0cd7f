use Rattle.std.proofs.Common.{length}
use Rattle.lists.specs.Reach.{HasReached, fresh}
use Rattle.lists.proofs.ReachedPlaces.{HoldsBelow}
use Rattle.cargo_lock_merge_core.specs.Reach.{RootAt}
use Rattle.cargo_lock_merge_core.proofs.reach.from_roots.Given as goal

-- the roots so far are reached
abbrev pub invariant-loop-at : goal.invariant-loop-at
invariant-loop-at l = HasReached (HoldsBelow (RootAt l.nodes) l.at) (fresh (length l.nodes)) l.search
