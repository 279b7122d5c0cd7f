use Rattle.cargo_lock_merge_core.proofs.Unchanged.{the-other}
use Rattle.cargo_lock_merge_core.proofs.laws.merge_with_base.Goals as goal

pub returns : goal.returns
returns c = λ b x base side agree keeps. the-other b x base side agree keeps
