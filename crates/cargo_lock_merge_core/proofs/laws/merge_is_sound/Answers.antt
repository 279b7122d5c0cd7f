use Rattle.cargo_lock_merge_core.proofs.Soundness.{merge-sound}
use Rattle.cargo_lock_merge_core.proofs.laws.merge_is_sound.Goals as goal

pub returns : goal.returns
returns c = λ s m are h. merge-sound s are m h
