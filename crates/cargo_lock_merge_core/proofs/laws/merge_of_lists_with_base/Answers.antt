use Rattle.cargo_lock_merge_core.proofs.Origins.{lists-with-base}
use Rattle.cargo_lock_merge_core.proofs.laws.merge_of_lists_with_base.Goals as goal

pub returns : goal.returns
returns c = lists-with-base
