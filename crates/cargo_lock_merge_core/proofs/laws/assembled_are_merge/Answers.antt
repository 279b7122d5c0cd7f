use Rattle.cargo_lock_merge_core.proofs.Assembling.{assembled-merge}
use Rattle.cargo_lock_merge_core.proofs.laws.assembled_are_merge.Goals as goal

pub returns : goal.returns
returns c = λ all places s m ps sides h are. assembled-merge all places s m ps sides h are
