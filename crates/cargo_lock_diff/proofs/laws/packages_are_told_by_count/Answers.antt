use Rattle.cargo_lock_diff.proofs.Keys.{told_by_count}
use Rattle.cargo_lock_diff.proofs.laws.packages_are_told_by_count.Goals as goal

pub returns : goal.returns
returns c = told_by_count
