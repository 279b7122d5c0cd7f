use Rattle.cargo_lock_audit.proofs.OneLine.{faults-are-printable}
use Rattle.cargo_lock_audit.proofs.laws.faults_are_printable.Goals as goal

pub returns : goal.returns
returns c = faults-are-printable
