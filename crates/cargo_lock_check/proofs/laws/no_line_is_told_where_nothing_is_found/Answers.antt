use Rattle.cargo_lock_check.proofs.Sound.{none_told_if_empty}
use Rattle.cargo_lock_check.proofs.laws.no_line_is_told_where_nothing_is_found.Goals as goal

pub returns : goal.returns
returns c = none_told_if_empty
