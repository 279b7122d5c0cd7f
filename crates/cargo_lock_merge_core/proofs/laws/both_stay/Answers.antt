use Rattle.cargo_lock_merge_core.proofs.Staying.{both-stays}
use Rattle.cargo_lock_merge_core.proofs.laws.both_stay.Goals as goal

pub returns : goal.returns
returns c = λ s m x y z d one h among both dy dz. both-stays s one.base one.ours one.theirs m x y z d h among both.ours both.theirs both.same dy dz
