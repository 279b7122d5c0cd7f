use Rattle.std.proofs.Common.{◌+◌, ℕ, length, refl, arith}
use Rattle.lists.proofs.Places.{places-end, places-put}
use Rattle.cargo_lock_bom.proofs.root.all_nodes.Goals as goal

pub loop-node-preserved : goal.loop-node-preserved
loop-node-preserved c =
    places-put (λ (k : ℕ). Unit {0}) c.loop-node.node (c.loop-node.node + 1) c.loop-node.nodes.items c.push.new.self.items c.loop-node.invariant tt refl c.in_ok-push.ensures.items

pub returns : goal.returns
returns c =
    let low = c.loop-node-test.false in
    let high = c.loop-node.auto.node-end in
    let end = c.node_count-node-end.ensures in
    places-end (λ (k : ℕ). Unit {0}) c.loop-node.node (length c.args.graph.now.packages) c.loop-node.nodes.items c.loop-node.invariant (omega (arith, low, high, end))
