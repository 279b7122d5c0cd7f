use Rattle.cargo_lock_flaws.proofs.StaleKeys.{stale_keys_are_exact}
use Rattle.cargo_lock_check.proofs.laws.stale_keys_are_exact.Goals as goal

pub returns : goal.returns
returns c = stale_keys_are_exact
