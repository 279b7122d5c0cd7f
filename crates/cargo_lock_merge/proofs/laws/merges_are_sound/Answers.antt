use Rattle.cargo_lock_merge.proofs.SoundMerges.{merges-are-sound}
use Rattle.cargo_lock_merge.proofs.laws.merges_are_sound.Goals as goal

pub returns : goal.returns
returns c = merges-are-sound
