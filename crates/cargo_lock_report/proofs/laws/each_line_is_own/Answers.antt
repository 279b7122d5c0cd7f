use Rattle.cargo_lock_report.proofs.Bytes.{each-line-is-own}
use Rattle.cargo_lock_report.proofs.laws.each_line_is_own.Goals as goal

pub returns : goal.returns
returns c = each-line-is-own
