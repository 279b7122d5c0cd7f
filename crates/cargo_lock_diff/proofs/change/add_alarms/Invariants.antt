use Rattle.std.proofs.Common.{◌≡◌, ◌++◌, map, take}
use Rattle.cargo_lock_diff.specs.Change.{Alarm, change_of}
use Rattle.cargo_lock_diff.specs.Difference.{referred_pairs}
use Rattle.cargo_lock_diff.proofs.change.add_alarms.Given as goal

abbrev pub invariant-loop-alarm : goal.invariant-loop-alarm
invariant-loop-alarm l = map change_of l.all.items ≡ map change_of l.fn.all.items ++ map (λ a. Alarm a.0 a.1) (referred_pairs (take l.alarm-index l.alarm-items))
