use Rattle.std.proofs.Common.{◌≡◌, take, All}
use Rattle.std.specs.List.{Contains, filter}
use Rattle.cargo_lock_diff.specs.Alarm.{IsFounded, is_suspect}
use Rattle.cargo_lock_diff.specs.Difference.{referred_packages, referred_pairs}
use Rattle.cargo_lock_diff.specs.Matching.{seconds}
use Rattle.cargo_lock_diff.proofs.alarm.alarms_of_added.Given as goal

abbrev pub invariant-loop-new : goal.invariant-loop-new
invariant-loop-new l = All (λ a. IsFounded a.0 a.1) (referred_pairs l.all.items)
    × All (λ a. Contains l.vouchers a.0) (referred_pairs l.all.items)
    × (seconds (referred_pairs l.all.items) ≡ filter (is_suspect l.vouchers) (referred_packages (take l.new-index l.new-items)))
