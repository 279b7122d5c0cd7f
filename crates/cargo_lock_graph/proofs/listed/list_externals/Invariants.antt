use Rattle.std.proofs.Common.{◌≡◌, ◌++◌}
use Rattle.cargo_lock_graph.specs.Edges.{externals}
use Rattle.cargo_lock_graph.proofs.listed.list_externals.Given as goal

-- the nodes so far, and those that are left
abbrev pub invariant-loop-node : goal.invariant-loop-node
invariant-loop-node l =
    (goal.iterator-loop-node).can_next l.node-iterator ×
    (goal.iterator-loop-node).is_finite l.node-iterator ×
    (l.nodes.items ++ l.node-iterator ≡ externals l.fn.direction l.graph)
