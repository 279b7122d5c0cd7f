use Rattle.std.proofs.Common.{take}
use Rattle.cargo_lock_query.specs.Steps.{AreNearest}
use Rattle.cargo_lock_query.proofs.chain.nearest.Given as goal

-- the best of the nodes so far
abbrev pub invariant-loop-node : goal.invariant-loop-node
invariant-loop-node l = AreNearest l.steps (take l.node-index l.nodes) l.best
