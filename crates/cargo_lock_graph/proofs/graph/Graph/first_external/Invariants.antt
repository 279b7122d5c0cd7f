use Rattle.std.proofs.Common.{◌≡◌}
use Rattle.cargo_lock_graph.specs.Edges.{externals_from}
use Rattle.cargo_lock_graph.proofs.graph.Graph.first_external.Given as goal

-- no node passed over is such a node
abbrev pub invariant-loop-node : goal.invariant-loop-node
invariant-loop-node l = externals_from l.direction l.self l.from ≡ externals_from l.direction l.self l.node
