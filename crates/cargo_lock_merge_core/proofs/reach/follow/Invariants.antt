use Rattle.std.proofs.Common.{◌≡◌, Some, slice_get, take}
use Rattle.lists.specs.Chains.{OneLeadsTo}
use Rattle.lists.specs.Reach.{HasReached}
use Rattle.cargo_lock_merge_core.proofs.reach.follow.Given as goal

-- the targets so far are reached
abbrev pub invariant-loop-target : goal.invariant-loop-target
invariant-loop-target l = HasReached (OneLeadsTo (λ d k. slice_get l.places k ≡ Some d) (take l.target-index l.targets)) l.initial.search l.search
