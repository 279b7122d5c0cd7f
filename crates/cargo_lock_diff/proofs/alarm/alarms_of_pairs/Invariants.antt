use Rattle.std.proofs.Common.{◌≡◌, take, All}
use Rattle.std.specs.List.{Contains, filter}
use Rattle.cargo_lock_diff.specs.Alarm.{IsFounded, is_alarm}
use Rattle.cargo_lock_diff.specs.Difference.{referred_pairs}
use Rattle.cargo_lock_diff.specs.Matching.{seconds}
use Rattle.cargo_lock_diff.proofs.Vouched.{AreOwn}
use Rattle.cargo_lock_diff.proofs.alarm.alarms_of_pairs.Given as goal

abbrev pub invariant-loop-pair : goal.invariant-loop-pair
invariant-loop-pair l = All (λ a. IsFounded a.0 a.1) (referred_pairs l.all.items)
    × All (λ a. Contains l.vouchers a.0) (referred_pairs l.all.items)
    × AreOwn (referred_pairs (take l.pair-index l.pair-items)) l.all.items
    × (seconds (referred_pairs l.all.items) ≡ seconds (filter (is_alarm l.vouchers) (referred_pairs (take l.pair-index l.pair-items))))
