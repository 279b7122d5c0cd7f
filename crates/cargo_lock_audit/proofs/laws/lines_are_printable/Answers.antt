use Rattle.cargo_lock_audit.proofs.OneLine.{lines-are-printable}
use Rattle.cargo_lock_audit.proofs.laws.lines_are_printable.Goals as goal

pub returns : goal.returns
returns c = lines-are-printable
