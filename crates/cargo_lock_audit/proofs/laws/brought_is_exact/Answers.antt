use Rattle.cargo_lock_audit.proofs.Exact.{brought-is-exact}
use Rattle.cargo_lock_audit.proofs.laws.brought_is_exact.Goals as goal

pub returns : goal.returns
returns c = brought-is-exact
