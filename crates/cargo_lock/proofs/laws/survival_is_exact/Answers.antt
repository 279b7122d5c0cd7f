use Rattle.cargo_lock.proofs.Survival.{survives-exactly}
use Rattle.cargo_lock.proofs.laws.survival_is_exact.Goals as goal

pub returns : goal.returns
returns c = survives-exactly
