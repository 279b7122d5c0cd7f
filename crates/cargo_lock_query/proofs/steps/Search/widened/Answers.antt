use Rattle.std.proofs.Common.{ℕ, ◌+◌, List, subst}
use Rattle.cargo_lock_query.specs.Steps.{HasCounted, Met, NeedsOneOf, met_by, none_newest}
use Rattle.cargo_lock_query.proofs.Counting.{nodes-all, nodes-next}
use Rattle.cargo_lock_query.proofs.steps.Search.widened.Goals as goal

pub loop-node-preserved : goal.loop-node-preserved
loop-node-preserved c =
    nodes-next c.args.graph.now c.deref-node-items.result.now c.loop-node.node-index (c.args.depth + 1) c.node-item.result _ (met_by c.loop-node.search) (met_by c.meet_needers.new.self)
    c.loop-node-test.true c.node-item.is c.loop-node.invariant c.in_ok-meet_needers.ensures

pub returns : goal.returns
returns c =
    let nodes : List ℕ = c.deref-node-items.result.now in
    let empty : (Met) = record { steps = c.args.self.steps.items; newest = c.new.result.items } in
    let all : HasCounted (NeedsOneOf c.args.graph.now nodes) (c.args.depth + 1) empty (met_by c.loop-node.search) =
    nodes-all c.args.graph.now nodes c.loop-node.node-index (c.args.depth + 1) empty (met_by c.loop-node.search) c.loop-node-test.false c.loop-node.invariant in
    let a = c.deref-node-items.ensures.value in let b = c.new.ensures.items in
    subst (λ (ns : List ℕ). HasCounted (NeedsOneOf c.args.graph.now ns) (c.args.depth + 1) (none_newest (met_by c.args.self)) (met_by c.loop-node.search)) a
    (subst (λ (ws : List ℕ). let met : Met = record { steps = c.args.self.steps.items; newest = ws } in HasCounted (NeedsOneOf c.args.graph.now nodes) (c.args.depth + 1) met (met_by c.loop-node.search)) b all)
