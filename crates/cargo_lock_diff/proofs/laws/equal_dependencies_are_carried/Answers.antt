use Rattle.cargo_lock_diff.proofs.Carried.{equal_if_carried}
use Rattle.cargo_lock_diff.proofs.laws.equal_dependencies_are_carried.Goals as goal

pub returns : goal.returns
returns c = equal_if_carried
