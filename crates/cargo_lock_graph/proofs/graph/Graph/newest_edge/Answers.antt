use Rattle.cargo_lock_graph.specs.declared.graph.EdgeDirection.TheVariants.{Outgoing, Incoming}
use Rattle.cargo_lock_graph.proofs.EdgeChains.{newest_edge-edges}
use Rattle.cargo_lock_graph.proofs.graph.Graph.newest_edge.Goals as goal

pub returns-in-Outgoing-clause-edges : goal.returns-in-Outgoing-clause-edges
returns-in-Outgoing-clause-edges c =
    rw (c.in-Outgoing.is, ← c.self.view_is)
    (newest_edge-edges Outgoing _ _ _ _ c.args.node _ c.self.invariant.0 c.self.invariant.1 c.newest_edge.ensures)

pub returns-in-Incoming-clause-edges : goal.returns-in-Incoming-clause-edges
returns-in-Incoming-clause-edges c =
    rw (c.in-Incoming.is, ← c.self.view_is)
    (newest_edge-edges Incoming _ _ _ _ c.args.node _ c.self.invariant.0 c.self.invariant.2 c.newest_edge-in-Incoming.ensures)
