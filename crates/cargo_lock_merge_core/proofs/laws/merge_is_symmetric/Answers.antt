use Rattle.cargo_lock_merge_core.proofs.Sides.{merge-flip}
use Rattle.cargo_lock_merge_core.proofs.laws.merge_is_symmetric.Goals as goal

pub returns : goal.returns
returns c = λ s m h. merge-flip s m h
