use Rattle.std.proofs.Common.{◌≡◌, ◌∙◌, ◌++◌, ap, rules, sym}
use Rattle.cargo_lock_c.specs.Graph.{node_edges}
use Rattle.cargo_lock_c.proofs.EdgeLists.{edge_list-more}
use Rattle.cargo_lock_c.proofs.edges.edges_of.Goals as goal

pub loop-node-preserved : goal.loop-node-preserved
loop-node-preserved c =
    let edges = c.args.graph.now.edges in
    let next : c.as_slice.result.now ≡ node_edges edges c.loop-node.node = c.as_slice.ensures.value ∙ c.in_ok-of_node.ensures.ok ∙ ap (node_edges edges) c.new.ensures in
    let after : c.extend_from_slice.new.self.items ≡ c.loop-node.edges.items ++ c.as_slice.result.now = search rules in
    after ∙ rw (c.loop-node.invariant, next) (sym (edge_list-more edges c.loop-node.node))
