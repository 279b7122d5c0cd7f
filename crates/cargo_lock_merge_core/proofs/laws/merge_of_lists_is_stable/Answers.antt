use Rattle.cargo_lock_merge_core.proofs.Relisted.{again-ours, again-theirs}
use Rattle.cargo_lock_merge_core.proofs.laws.merge_of_lists_is_stable.Goals as goal

pub returns : goal.returns
returns c = λ all m h one none. (again-ours all m h one none, again-theirs all m h one none)
