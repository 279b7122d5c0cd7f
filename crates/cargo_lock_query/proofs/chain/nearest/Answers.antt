use Rattle.cargo_lock_query.proofs.Walking.{nearest-all, nearest-next, nearest-pass}
use Rattle.cargo_lock_query.proofs.chain.nearest.Goals as goal
use Rattle.cargo_lock_query.proofs.chain.nearest.Goals.{in-Some, in_default}

pub loop-node-preserved : goal.loop-node-preserved
loop-node-preserved c =
    let low = c.loop-node-test.true in
    let is = c.node-item.is in
    elim c.match-steps_from.branch [
      | in-Some w ↦ rw w.best-is (nearest-next c.args.steps.now c.args.nodes.now c.loop-node.node-index c.node-item.result w.in-Some.steps c.loop-node.best w.nearer.result low is w.in-Some.ensures w.nearer.ensures c.loop-node.invariant)
      | in_default w ↦ rw w.best-is (nearest-pass c.args.steps.now c.args.nodes.now c.loop-node.node-index c.node-item.result c.loop-node.best low is w.in_default.ensures c.loop-node.invariant)
    ]

pub returns : goal.returns
returns c = nearest-all c.args.steps.now c.args.nodes.now c.loop-node.node-index c.loop-node.best c.loop-node-test.false c.loop-node.invariant
