use Rattle.cargo_lock_merge_core.proofs.Unchanged.{each-side}
use Rattle.cargo_lock_merge_core.proofs.laws.merge_with_itself.Goals as goal

pub returns : goal.returns
returns c = λ b x base side keeps. each-side b x base side keeps
