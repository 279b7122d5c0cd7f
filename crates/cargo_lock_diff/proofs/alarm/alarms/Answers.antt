use Rattle.std.proofs.Common.{List, ◌++◌, ap, ◌∙◌}
use Rattle.std.specs.Borrow.{Bor}
use Rattle.cargo_lock_parts.specs.Identity.{PackageData}
use Rattle.cargo_lock_diff.specs.Difference.{referred_packages, referred_pairs}
use Rattle.cargo_lock_diff.proofs.Vouched.{alarms-joined}
use Rattle.cargo_lock_diff.proofs.alarm.alarms.Goals as goal

pub returns : goal.returns
returns c =
    let one = c.in_ok-all.all.items in
    let other = c.in_ok-others.others.items in
    alarms-joined c.args.vouchers.now (referred_pairs c.args.pairs.now.items) (referred_packages c.args.added.now.items) one other c.extend_from_slice.new.self.items
    record { founded = c.in_ok-all.ensures.founded; among = c.in_ok-all.ensures.among; told_all = c.in_ok-all.ensures.told } c.in_ok-all.ensures.own
    record { founded = c.in_ok-others.ensures.founded; among = c.in_ok-others.ensures.among; told_all = c.in_ok-others.ensures.told }
    (c.in_ok-extend_from_slice.ensures.items ∙ ap (λ (zs : List (Bor PackageData × Bor PackageData)). one ++ zs) c.as_slice.ensures.value)
