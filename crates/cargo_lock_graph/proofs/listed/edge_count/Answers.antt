use Rattle.std.proofs.Common.{ap, arith, inl, length, sym, ◌∙◌}
use Rattle.std.proofs.lemmas.List.{length-map}
use Rattle.std.proofs.lemmas.Iterator.Consumers.{YieldsList-from_first, count_from_yields_List}
use Rattle.cargo_lock_graph.specs.Edges.{Edge, edges_at, far_end}
use Rattle.cargo_lock_graph.proofs.Listing.{edges-short}
use Rattle.cargo_lock_graph.proofs.listed.edge_count.Goals as goal

pub count-requires-clause-fits : goal.count-requires-clause-fits
count-requires-clause-fits c =
    let short = edges-short c.args.direction c.args.graph.now.edges c.args.node in
    inl (omega (arith, short, ap length c.edges_directed.ensures.edges, c.edge_count-all.ensures))

pub returns : goal.returns
returns c =
    let edges = edges_at c.args.direction c.args.graph.now.edges c.args.node in
    count_from_yields_List c.edges_directed.result c.count.result c.count.ensures.ran (YieldsList-from_first (λ (e : Edge). e) (λ left. left) edges c.edges_directed.ensures.edges)
    ∙ sym (length-map edges (far_end c.args.direction))
