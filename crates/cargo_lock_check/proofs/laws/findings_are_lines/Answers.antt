use Rattle.cargo_lock_check.proofs.OneLine.{each-finding-is-one-line}
use Rattle.cargo_lock_check.proofs.laws.findings_are_lines.Goals as goal

pub returns : goal.returns
returns c = each-finding-is-one-line
