use Rattle.cargo_lock_parts.proofs.EqualityLemmas.{equal_dependencies}
use Rattle.cargo_lock_parts.proofs.laws.dependencies_are_equal_by_keys.Goals as goal

pub returns : goal.returns
returns c = equal_dependencies
