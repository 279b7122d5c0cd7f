use Rattle.cargo_lock_merge_core.proofs.Alike.{merge-once}
use Rattle.cargo_lock_merge_core.proofs.laws.merge_is_unique.Goals as goal

pub returns : goal.returns
returns c = λ s m n one h k. merge-once s m n one h k
