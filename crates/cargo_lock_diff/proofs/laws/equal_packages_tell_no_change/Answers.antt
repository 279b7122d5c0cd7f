use Rattle.cargo_lock_diff.proofs.Told.{none_if_permuted}
use Rattle.cargo_lock_diff.proofs.laws.equal_packages_tell_no_change.Goals as goal

pub returns : goal.returns
returns c = none_if_permuted
