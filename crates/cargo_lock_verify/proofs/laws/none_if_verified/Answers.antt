use Rattle.cargo_lock_verify.proofs.Exact.{none-if-verified}
use Rattle.cargo_lock_verify.proofs.laws.none_if_verified.Goals as goal

pub returns : goal.returns
returns c = none-if-verified
