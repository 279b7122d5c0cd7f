use Rattle.cargo_lock_diff.proofs.Unordered.{order_does_not_count}
use Rattle.cargo_lock_diff.proofs.laws.order_of_packages_does_not_count.Goals as goal

pub returns : goal.returns
returns c = order_does_not_count
