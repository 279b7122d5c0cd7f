use Rattle.cargo_lock.proofs.PlainFirst.{plain-survives}
use Rattle.cargo_lock.proofs.laws.plain_lockfiles_survive.Goals as goal

pub returns : goal.returns
returns c = plain-survives
