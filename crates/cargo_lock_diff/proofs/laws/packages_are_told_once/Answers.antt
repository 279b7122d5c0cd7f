use Rattle.cargo_lock_diff.proofs.Keys.{told_once}
use Rattle.cargo_lock_diff.proofs.laws.packages_are_told_once.Goals as goal

pub returns : goal.returns
returns c = told_once
