use Rattle.cargo_lock_merge_core.proofs.Stable.{merge-again, merge-again-theirs}
use Rattle.cargo_lock_merge_core.proofs.laws.merge_is_stable.Goals as goal

pub returns : goal.returns
returns c = λ s m are h. (merge-again s are m h, merge-again-theirs s are m h)
