use Rattle.cargo_lock_merge_core.proofs.Sides.{merge-closed}
use Rattle.cargo_lock_merge_core.proofs.laws.merge_is_closed.Goals as goal

pub returns : goal.returns
returns c = λ s m x d h k j. merge-closed s m x d h k j
