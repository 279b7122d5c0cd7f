use Rattle.std.proofs.Common.{sym, ◌∙◌}
use Rattle.std.proofs.Common.{List, subst}
use Rattle.cargo_lock_graph.specs.Chains.{AreBetween}
use Rattle.cargo_lock_graph.specs.Edges.{Edge}
use Rattle.cargo_lock_graph.proofs.MadeChains.{chains-step, near_below}
use Rattle.cargo_lock_graph.proofs.graph.Chains.of.Goals as goal

pub loop-edge-preserved : goal.loop-edge-preserved
loop-edge-preserved c =
    let edges : List Edge = c.deref-edge-items.result.now in
    let e : Edge = c.edge-item.result in
    let index = c.loop-edge.edge-index in
    let between : AreBetween c.args.count edges = subst (λ es. AreBetween c.args.count es) (sym c.deref-edge-items.ensures.value) c.requires in
    let inside = c.loop-edge-test.true in
    chains-step c.args.direction c.args.count edges c.loop-edge.newest_edge.items c.loop-edge.older_edge.items c.push.new.self.items
    index c.node.inside.0 c.len-place.result e c.index.result.now
    inside c.edge-item.is (c.node.view_is ∙ c.near_end.ensures)
    (near_below c.args.direction c.args.count edges index e between inside c.edge-item.is)
    (c.len-place.ensures ∙ c.loop-edge.older_edge.ok.0) c.index.ensures c.in_ok-push.ensures.items
    c.loop-edge.invariant
