use Rattle.cargo_lock_merge_core.proofs.Sides.{moved-turned}
use Rattle.cargo_lock_merge_core.proofs.laws.moved_references_are_symmetric.Goals as goal

pub returns : goal.returns
returns c = λ s m x y h. moved-turned s m x y h
