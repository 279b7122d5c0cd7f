use Rattle.std.proofs.Common.{map}
use Rattle.cargo_lock_licenses.specs.Judged.{judged_of}
use Rattle.cargo_lock_licenses.specs.Policy.{policy_of}
use Rattle.cargo_lock_licenses.proofs.Verdicts.{next-subject}
use Rattle.cargo_lock_licenses.proofs.report.all_judged.Goals as goal

pub loop-subject-preserved : goal.loop-subject-preserved
loop-subject-preserved c = next-subject (policy_of c.args.policy.now) c.args.subjects.now c.loop-subject.subject-index c.subject-item.result
    (map judged_of c.loop-subject.judged.items) (map judged_of c.put_judged.new.judged.items) c.loop-subject-test.true c.subject-item.is c.loop-subject.invariant c.in_ok-put_judged.ensures
