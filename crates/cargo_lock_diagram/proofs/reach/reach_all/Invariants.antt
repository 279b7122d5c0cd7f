use Rattle.std.proofs.Common.{◌≡◌, take}
use Rattle.lists.specs.Chains.{OneLeadsTo}
use Rattle.lists.specs.Reach.{HasReached}
use Rattle.cargo_lock_diagram.proofs.reach.reach_all.Given as goal

-- the nodes so far are reached
abbrev pub invariant-loop-node : goal.invariant-loop-node
invariant-loop-node l = HasReached (OneLeadsTo (λ n k. k ≡ n) (take l.node-index l.nodes)) l.initial.search l.search
