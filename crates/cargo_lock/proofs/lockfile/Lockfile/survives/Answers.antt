use Rattle.cargo_lock.proofs.Survival.{survives-exactly}
use Rattle.cargo_lock.proofs.lockfile.Lockfile.survives.Goals as goal

pub returns-clause-exact : goal.returns-clause-exact
returns-clause-exact c = survives-exactly c.args.self.now c.args.format
