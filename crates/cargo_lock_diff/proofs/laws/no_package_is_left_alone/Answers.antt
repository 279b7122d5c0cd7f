use Rattle.cargo_lock_diff.proofs.Told.{none_is_left_alone}
use Rattle.cargo_lock_diff.proofs.laws.no_package_is_left_alone.Goals as goal

pub returns : goal.returns
returns c = none_is_left_alone
