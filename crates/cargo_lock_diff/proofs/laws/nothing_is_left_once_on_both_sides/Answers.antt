use Rattle.cargo_lock_diff.proofs.Exact.{none_is_left_in_turn}
use Rattle.cargo_lock_diff.proofs.laws.nothing_is_left_once_on_both_sides.Goals as goal

pub returns : goal.returns
returns c = none_is_left_in_turn
