use Rattle.cargo_lock_merge_core.proofs.Staying.{taken-gone}
use Rattle.cargo_lock_merge_core.proofs.laws.taken_away_is_gone.Goals as goal

pub returns : goal.returns
returns c = λ s m w x y z d one h among both at dw none. taken-gone s one.base one.ours one.theirs m w x y z d h among both.ours both.theirs both.same at dw none
