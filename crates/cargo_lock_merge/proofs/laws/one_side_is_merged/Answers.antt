use Rattle.cargo_lock_merge.proofs.OneSide.{one-side-is-merged}
use Rattle.cargo_lock_merge.proofs.laws.one_side_is_merged.Goals as goal

pub returns : goal.returns
returns c = one-side-is-merged
