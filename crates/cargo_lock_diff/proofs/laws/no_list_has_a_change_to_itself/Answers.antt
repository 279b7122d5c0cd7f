use Rattle.cargo_lock_diff.proofs.Itself.{none-to-itself}
use Rattle.cargo_lock_diff.proofs.laws.no_list_has_a_change_to_itself.Goals as goal

pub returns : goal.returns
returns c = none-to-itself
