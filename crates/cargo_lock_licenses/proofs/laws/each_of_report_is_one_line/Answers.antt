use Rattle.cargo_lock_licenses.proofs.OneLine.{each-of-report}
use Rattle.cargo_lock_licenses.proofs.laws.each_of_report_is_one_line.Goals as goal

pub returns : goal.returns
returns c = each-of-report
