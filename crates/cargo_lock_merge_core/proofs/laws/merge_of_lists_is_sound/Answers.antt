use Rattle.cargo_lock_merge_core.proofs.Soundness.{lists-sound}
use Rattle.cargo_lock_merge_core.proofs.laws.merge_of_lists_is_sound.Goals as goal

pub returns : goal.returns
returns c = λ all m h one. lists-sound all m h one
