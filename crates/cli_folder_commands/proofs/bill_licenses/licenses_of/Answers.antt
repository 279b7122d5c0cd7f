use Rattle.cli_folder_commands.proofs.Expressions.{next-license}
use Rattle.cli_folder_commands.proofs.bill_licenses.licenses_of.Goals as goal

pub loop-subject-preserved : goal.loop-subject-preserved
loop-subject-preserved c =
    next-license c.args.subjects.now c.loop-subject.subject-index c.subject-item.result c.loop-subject.licenses.items c.push.new.self.items c.in_ok-license_of.field-0
    c.loop-subject-test.true c.subject-item.is c.loop-subject.invariant c.in_ok-license_of.ensures c.in_ok-push.ensures.items
