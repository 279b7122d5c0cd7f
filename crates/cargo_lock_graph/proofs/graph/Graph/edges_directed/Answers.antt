use Rattle.std.proofs.Common.{◌∙◌, length, sym, subst}
use Rattle.cargo_lock_graph.specs.Chains.{AreBetween}
use Rattle.cargo_lock_graph.proofs.GraphEnds.{no-edges-beyond}
use Rattle.cargo_lock_graph.proofs.WalkSteps.{between-at}
use Rattle.cargo_lock_graph.proofs.graph.Graph.edges_directed.Goals as goal

pub returns-clause-within : goal.returns-clause-within
returns-clause-within c =
    let graph = c.args.self.now in
    let count = length graph.packages in
    subst (λ es. AreBetween count es) (sym c.newest_edge.ensures.edges) (between-at c.args.direction graph.edges count c.args.index c.has_both_ends.ensures)

pub returns-clause-beyond : goal.returns-clause-beyond
returns-clause-beyond c high =
    let graph = c.args.self.now in
    c.newest_edge.ensures.edges ∙ no-edges-beyond c.args.direction graph.edges (length graph.packages) c.args.index c.has_both_ends.ensures high
