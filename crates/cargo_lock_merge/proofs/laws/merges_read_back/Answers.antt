use Rattle.cargo_lock_merge.proofs.SoundMerges.{merges-read-back}
use Rattle.cargo_lock_merge.proofs.laws.merges_read_back.Goals as goal

pub returns : goal.returns
returns c = merges-read-back
