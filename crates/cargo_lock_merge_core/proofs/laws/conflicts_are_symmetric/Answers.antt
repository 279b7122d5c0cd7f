use Rattle.cargo_lock_merge_core.proofs.Sides.{conflict-turned}
use Rattle.cargo_lock_merge_core.proofs.laws.conflicts_are_symmetric.Goals as goal

pub returns : goal.returns
returns c = λ s k h. conflict-turned s k h
