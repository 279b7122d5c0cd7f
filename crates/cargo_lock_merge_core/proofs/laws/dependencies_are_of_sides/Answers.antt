use Rattle.cargo_lock_merge_core.proofs.Sides.{dependency-side}
use Rattle.cargo_lock_merge_core.proofs.laws.dependencies_are_of_sides.Goals as goal

pub returns : goal.returns
returns c = λ s m x d h k j. dependency-side s m x d h k j
