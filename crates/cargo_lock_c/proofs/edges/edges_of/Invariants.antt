use Rattle.std.proofs.Common.{◌≡◌}
use Rattle.cargo_lock_c.specs.Graph.{edge_list}
use Rattle.cargo_lock_c.proofs.edges.edges_of.Given as goal

abbrev pub invariant-loop-node : goal.invariant-loop-node
invariant-loop-node l = l.edges.items ≡ edge_list l.graph.edges l.node
