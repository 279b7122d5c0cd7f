use Rattle.cargo_lock_diff.proofs.Homes.{one-more-stands}
use Rattle.cargo_lock_diff.proofs.home.stand_ins.Goals as goal

pub loop-package-preserved : goal.loop-package-preserved
loop-package-preserved c =
    one-more-stands c.deref-package-items.result.now c.loop-package.package-index c.package-item.result c.loop-package.all.items _ c.in_ok-stand_in.field-0
    c.loop-package-test.true c.package-item.is c.loop-package.invariant c.in_ok-stand_in.ensures c.in_ok-push.ensures.items
