use Rattle.cargo_lock_verify.proofs.Exact.{findings-are-exact}
use Rattle.cargo_lock_verify.proofs.laws.findings_are_exact.Goals as goal

pub returns : goal.returns
returns c = findings-are-exact
