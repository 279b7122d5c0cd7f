use Rattle.std.proofs.Common.{◌≡◌, ◌++◌, List}
use Rattle.cargo_lock_graph.specs.Edges.{Edge, edges_at}
use Rattle.cargo_lock_graph.specs.declared.graph.EdgeDirection.TheVariants.{Incoming}
use Rattle.cargo_lock_query.specs.Steps.{HasCounted, met_by}
use Rattle.cargo_lock_query.proofs.Needing.{Starts}
use Rattle.cargo_lock_query.proofs.steps.Search.meet_needers.Given as goal

-- the starts of the edges so far are met
abbrev pub invariant-loop-edge : goal.invariant-loop-edge
invariant-loop-edge l =
    (goal.iterator-loop-edge).can_next l.edge-iterator ×
    (goal.iterator-loop-edge).is_finite l.edge-iterator ×
    ((front : List Edge) × (front ++ l.edge-iterator ≡ edges_at Incoming l.graph.edges l.fn.node)
    × HasCounted (Starts front) l.steps (met_by l.initial.self) (met_by l.self))
