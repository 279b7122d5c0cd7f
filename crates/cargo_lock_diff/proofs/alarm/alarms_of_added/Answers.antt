use Rattle.cargo_lock_diff.proofs.Vouched.{AlarmsSo, added-hit, added-miss}
use Rattle.cargo_lock_diff.proofs.alarm.alarms_of_added.Goals as goal
use Rattle.cargo_lock_diff.proofs.alarm.alarms_of_added.Goals.{in-Some+in_ok-push, in_default}

pub loop-new-preserved : goal.loop-new-preserved
loop-new-preserved c =
    let items = c.deref-new-items.result.now in
    let i = c.loop-new.new-index in
    let x = c.new-item.result in
    let so : AlarmsSo c.args.vouchers.now _ c.loop-new.all.items = record { founded = c.loop-new.invariant.0; among = c.loop-new.invariant.1; told_all = c.loop-new.invariant.2 } in
    elim c.match-against.branch [
      | in-Some+in_ok-push w ↦
          let made = added-hit c.args.vouchers.now items i x w.in-Some.old c.loop-new.all.items _ c.loop-new-test.true c.new-item.is so w.in_ok-push.ensures.items w.in-Some.ensures.0 w.in-Some.ensures.1 w.in-Some.ensures.2 in
          rw w.all-is (made.founded, made.among, made.told_all)
      | in_default w ↦
          let made = added-miss c.args.vouchers.now items i x c.loop-new.all.items c.loop-new-test.true c.new-item.is so w.in_default.ensures in
          rw w.all-is (made.founded, made.among, made.told_all)
    ]
