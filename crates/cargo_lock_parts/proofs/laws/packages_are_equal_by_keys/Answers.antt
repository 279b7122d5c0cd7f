use Rattle.cargo_lock_parts.proofs.EqualityLemmas.{equal_packages}
use Rattle.cargo_lock_parts.proofs.laws.packages_are_equal_by_keys.Goals as goal

pub returns : goal.returns
returns c = equal_packages
