use Rattle.cargo_lock_audit.proofs.Exact.{concern-is-exact}
use Rattle.cargo_lock_audit.proofs.laws.concern_is_exact.Goals as goal

pub returns : goal.returns
returns c = concern-is-exact
