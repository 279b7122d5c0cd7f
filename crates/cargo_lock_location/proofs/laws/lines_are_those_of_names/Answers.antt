use Rattle.cargo_lock_location.proofs.Numbers.{lines_are_those_of_names}
use Rattle.cargo_lock_location.proofs.laws.lines_are_those_of_names.Goals as goal

pub returns : goal.returns
returns c = lines_are_those_of_names
