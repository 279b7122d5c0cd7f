use Rattle.std.proofs.Common.{ap}
use Rattle.cargo_lock_merge_core.specs.Numbered.{data_if, placed_data}
use Rattle.cargo_lock_merge_core.proofs.Agreeing.{same-as-some}
use Rattle.cargo_lock_merge_core.proofs.choices.is_same_as.Goals as goal

pub returns-in-Some : goal.returns-in-Some
returns-in-Some c =
    same-as-some (placed_data c.args.«package») (placed_data c.in-Some.base) (data_if c.args.base) c.are_same.result (ap data_if c.in-Some.is) c.are_same.ensures
