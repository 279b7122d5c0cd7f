use Rattle.cargo_lock_audit.proofs.Covered.{coverage-is-exact}
use Rattle.cargo_lock_audit.proofs.laws.coverage_is_exact.Goals as goal

pub returns : goal.returns
returns c = coverage-is-exact
