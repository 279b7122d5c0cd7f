use Rattle.std.proofs.Common.{◌+◌, take}
use Rattle.cargo_lock_query.specs.Steps.{HasCounted, NeedsOneOf, met_by}
use Rattle.cargo_lock_query.proofs.steps.Search.widened.Given as goal

-- what needs one of the nodes so far is met
abbrev pub invariant-loop-node : goal.invariant-loop-node
invariant-loop-node l = HasCounted (NeedsOneOf l.graph (take l.node-index l.node-items)) (l.depth + 1) (met_by l.initial.search) (met_by l.search)
