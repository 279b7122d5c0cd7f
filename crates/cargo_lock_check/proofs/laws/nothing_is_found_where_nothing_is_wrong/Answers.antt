use Rattle.cargo_lock_check.proofs.Sound.{empty_if_sound}
use Rattle.cargo_lock_check.proofs.laws.nothing_is_found_where_nothing_is_wrong.Goals as goal

pub returns : goal.returns
returns c = empty_if_sound
