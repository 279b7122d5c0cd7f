use Rattle.cargo_lock.proofs.EqualLockfiles.{equal_exactly}
use Rattle.cargo_lock.proofs.laws.lockfiles_are_equal_by_keys.Goals as goal

pub returns : goal.returns
returns c = equal_exactly
