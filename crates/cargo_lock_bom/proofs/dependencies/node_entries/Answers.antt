use Rattle.cargo_lock_bom.specs.Contents.{entry_for}
use Rattle.cargo_lock_bom.specs.Dependencies.{IsNodeEntry}
use Rattle.cargo_lock_bom.proofs.Entries.{next-entry}
use Rattle.cargo_lock_bom.proofs.dependencies.node_entries.Goals as goal

pub loop-node-preserved : goal.loop-node-preserved
loop-node-preserved c =
    let graph = c.args.graph.now in
    let entry = c.in_ok-node_entry.field-0 in
    next-entry (IsNodeEntry graph) (entry_for graph.packages) c.args.nodes.now c.loop-node.node-index c.new.result c.loop-node.made.items c.push.new.self.items entry
    c.loop-node-test.true c.new.ensures c.loop-node.invariant c.in_ok-node_entry.ensures c.in_ok-push.ensures.items
