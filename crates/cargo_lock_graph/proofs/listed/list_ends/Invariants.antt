use Rattle.std.proofs.Common.{◌≡◌, ◌++◌, map}
use Rattle.cargo_lock_graph.specs.Edges.{far_end, far_ends}
use Rattle.cargo_lock_graph.proofs.listed.list_ends.Given as goal

-- the ends so far, and those of the edges that are left
abbrev pub invariant-loop-edge : goal.invariant-loop-edge
invariant-loop-edge l =
    (goal.iterator-loop-edge).can_next l.edge-iterator ×
    (goal.iterator-loop-edge).is_finite l.edge-iterator ×
    (l.ends.items ++ map (far_end l.direction) l.edge-iterator ≡ far_ends l.direction l.graph.edges l.fn.node)
