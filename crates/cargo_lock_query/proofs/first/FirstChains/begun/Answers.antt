use Rattle.std.proofs.Common.{◌≡◌, ◌∙◌, None, ap, length, replicate, rules}
use Rattle.cargo_lock_query.specs.FirstChains.{linked_by}
use Rattle.cargo_lock_query.proofs.Following.{begun-all, begun-next, begun-none}
use Rattle.cargo_lock_query.proofs.first.FirstChains.begun.Goals as goal

pub loop-start-init : goal.loop-start-init
loop-start-init c =
    let bare : c.in_ok-vec.field-0.items ≡ replicate (length c.args.graph.now.packages) None =
    let count = c.in_ok-vec.ensures.items_if_clones_equal (λ y e. search rules) in count ∙ ap (λ n. replicate n None) c.node_count.ensures in
    begun-none c.args.graph.now c.args.starts.now _ c.new.ensures.items bare

pub loop-start-preserved : goal.loop-start-preserved
loop-start-preserved c =
    begun-next c.args.graph.now c.args.starts.now c.loop-start.start-index c.start-item.result (linked_by c.loop-start.chains) (linked_by c.add.new.self) c.requires.ascending
    c.loop-start-test.true c.start-item.is c.in_ok-add.ensures c.loop-start.invariant

pub returns : goal.returns
returns c = begun-all c.args.graph.now c.args.starts.now c.loop-start.start-index (linked_by c.loop-start.chains) c.loop-start-test.false c.loop-start.invariant
