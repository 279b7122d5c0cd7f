use Rattle.cargo_lock_audit.proofs.Exact.{none-if-unconcerned}
use Rattle.cargo_lock_audit.proofs.laws.none_if_unconcerned.Goals as goal

pub returns : goal.returns
returns c = none-if-unconcerned
