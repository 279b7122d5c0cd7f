use Rattle.cargo_lock_merge_core.proofs.Soundness.{no-conflict}
use Rattle.cargo_lock_merge_core.proofs.laws.merge_excludes_conflicts.Goals as goal

pub returns : goal.returns
returns c = λ s m c k are h. no-conflict s are m h c k
