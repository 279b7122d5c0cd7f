use Rattle.std.proofs.Common.{◌≡◌, ℕ, List, subst}
use Rattle.lists.specs.Reach.{HasReached}
use Rattle.lists.proofs.ReachedPlaces.{each-all, each-is, each-next, each-none}
use Rattle.cargo_lock_diagram.proofs.reach.reach_all.Goals as goal

pub loop-node-init : goal.loop-node-init
loop-node-init c = each-none (λ n k. k ≡ n) c.args.nodes.now c.args.search.now

pub loop-node-preserved : goal.loop-node-preserved
loop-node-preserved c =
    each-next (λ n k. k ≡ n) c.args.nodes.now c.loop-node.node-index c.node-item.result c.args.search.now c.loop-node.search c.reach.new.self
    c.loop-node-test.true c.node-item.is c.loop-node.invariant
    (subst (λ (n : ℕ). HasReached (λ k. k ≡ n) c.loop-node.search c.reach.new.self) c.index.ensures c.in_ok-reach.ensures)

pub returns : goal.returns
returns c =
    let nodes : List ℕ = c.args.nodes.now in
    each-is nodes c.args.search.now c.loop-node.search
    (each-all (λ n k. k ≡ n) nodes c.loop-node.node-index c.args.search.now c.loop-node.search c.loop-node-test.false c.loop-node.invariant)
