use Rattle.std.proofs.Common.{refl}
use Rattle.cargo_lock_merge.specs.Moved.{IsNamedMoved}
use Rattle.cargo_lock_graph.proofs.Zipped.{zip-next}
use Rattle.cargo_lock_merge.proofs.moved.with_identities.Goals as goal

pub loop-one-preserved : goal.loop-one-preserved
loop-one-preserved c =
    zip-next IsNamedMoved c.args.found.now c.loop-one.one-index c.one-item.result c.loop-one.all.items c.push.new.self.items _ c.loop-one-test.true c.one-item.is c.loop-one.invariant
    record { same = refl; from = c.in_ok-from.ensures.ok; to = c.in_ok-to.ensures.ok } c.in_ok-push.ensures.items
