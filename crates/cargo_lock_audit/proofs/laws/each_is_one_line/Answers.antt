use Rattle.cargo_lock_audit.proofs.OneLine.{each-is-one-line}
use Rattle.cargo_lock_audit.proofs.laws.each_is_one_line.Goals as goal

pub returns : goal.returns
returns c = each-is-one-line
