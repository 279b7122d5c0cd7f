use Rattle.cargo_lock_audit.proofs.Exact.{findings-are-exact}
use Rattle.cargo_lock_audit.proofs.laws.findings_are_exact.Goals as goal

pub returns : goal.returns
returns c = findings-are-exact
