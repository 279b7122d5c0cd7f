use Rattle.cargo_lock_diff.proofs.Exact.{told_in_turn}
use Rattle.cargo_lock_diff.proofs.laws.packages_are_paired_once_or_left.Goals as goal

pub returns : goal.returns
returns c = told_in_turn
