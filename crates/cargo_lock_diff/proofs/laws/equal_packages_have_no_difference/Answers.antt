use Rattle.cargo_lock_diff.proofs.Keys.{empty_if_permuted}
use Rattle.cargo_lock_diff.proofs.laws.equal_packages_have_no_difference.Goals as goal

pub returns : goal.returns
returns c = empty_if_permuted
