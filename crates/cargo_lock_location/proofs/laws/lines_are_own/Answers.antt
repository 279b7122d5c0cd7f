use Rattle.cargo_lock_location.proofs.Own.{lines_are_own}
use Rattle.cargo_lock_location.proofs.laws.lines_are_own.Goals as goal

pub returns : goal.returns
returns c = lines_are_own
