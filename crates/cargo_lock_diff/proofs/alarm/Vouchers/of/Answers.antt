use Rattle.cargo_lock_diff.specs.Difference.{referred_packages}
use Rattle.cargo_lock_diff.proofs.Vouched.{vouchers-made, vouchers-of}
use Rattle.cargo_lock_diff.proofs.alarm.Vouchers.of.Goals as goal

pub invariant_of-result : goal.invariant_of-result
invariant_of-result c = vouchers-made (referred_packages c.args.olds.now.items) c.in_ok-all.all.items c.in_ok-by_version.by_version.items c.in_ok-by_archive.by_archive.items c.in_ok-by_place.by_place.items
    c.in_ok-all.ensures c.in_ok-by_version.ensures.items c.in_ok-by_archive.ensures.items c.in_ok-by_place.ensures.items
    c.in_ok-by_version.ensures.sorted c.in_ok-by_archive.ensures.sorted c.in_ok-by_place.ensures.sorted

pub returns : goal.returns
returns c = vouchers-of (referred_packages c.args.olds.now.items) c.in_ok-all.all.items c.in_ok-by_version.by_version.items c.in_ok-all.ensures c.in_ok-by_version.ensures.items
