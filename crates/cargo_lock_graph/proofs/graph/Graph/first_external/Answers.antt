use Rattle.std.proofs.Common.{◌<◌, length, not, ap, ◌∙◌}
use Rattle.cargo_lock_graph.proofs.EdgeChains.{any-newest_edge, external-found, external-passed}
use Rattle.cargo_lock_graph.proofs.graph.Graph.first_external.Goals as goal

pub returns-then-is_none-clause-external : goal.returns-then-is_none-clause-external
returns-then-is_none-clause-external c =
    let node = c.loop-node.node in
    let low : node < length c.args.self.now.packages = rw (← c.node_count-node-end.ensures) c.loop-node-test.true in
    let any = any-newest_edge c.args.direction c.args.self.now.edges node c.newest_edge.result c.newest_edge.ensures.edges c.newest_edge.ensures.within in
    c.loop-node.invariant ∙ external-found c.args.direction c.args.self.now node c.newest_edge.result low any (c.is_none.ensures ∙ ap not c.if-is_none.true)

pub loop-node-preserved : goal.loop-node-preserved
loop-node-preserved c =
    let node = c.loop-node.node in
    let low : node < length c.args.self.now.packages = rw (← c.node_count-node-end.ensures) c.loop-node-test.true in
    let any = any-newest_edge c.args.direction c.args.self.now.edges node c.newest_edge.result c.newest_edge.ensures.edges c.newest_edge.ensures.within in
    c.loop-node.invariant ∙ external-passed c.args.direction c.args.self.now node c.newest_edge.result low any (c.is_none.ensures ∙ ap not c.if-is_none.false)
