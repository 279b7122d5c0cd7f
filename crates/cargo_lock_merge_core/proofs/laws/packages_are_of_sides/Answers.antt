use Rattle.cargo_lock_merge_core.proofs.Sides.{package-side}
use Rattle.cargo_lock_merge_core.proofs.laws.packages_are_of_sides.Goals as goal

pub returns : goal.returns
returns c = λ s m x h k. package-side s m x h k
