use Rattle.cargo_lock_diff.proofs.Strange.{came-hit, came-miss}
use Rattle.cargo_lock_diff.proofs.stranger.came.Goals as goal
use Rattle.cargo_lock_diff.proofs.stranger.came.Goals.{in-Some+in_ok-push, in_default}

pub loop-new-preserved : goal.loop-new-preserved
loop-new-preserved c = elim c.match-branch-2.branch [
  | in-Some+in_ok-push w ↦
      rw w.all-is (came-hit c.args.accepted.now c.args.residents.now c.deref-new-items.result.now c.loop-new.all.items _ c.loop-new.new-index c.new-item.result w.in-Some.old c.in_ok-old.field-0
      c.loop-new-test.true c.new-item.is c.loop-new.invariant w.in_ok-push.ensures.items w.in-Some.is c.in_ok-old.ensures)
  | in_default w ↦
      rw w.all-is (came-miss c.args.accepted.now c.args.residents.now c.deref-new-items.result.now c.loop-new.all.items c.loop-new.new-index c.new-item.result c.in_ok-old.field-0
      c.loop-new-test.true c.new-item.is c.loop-new.invariant w.in_default.is c.in_ok-old.ensures)
]
