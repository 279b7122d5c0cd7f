use Rattle.cargo_lock_diff.proofs.Mirrored.{as-many-lines}
use Rattle.cargo_lock_diff.proofs.laws.lines_are_as_many_there_and_back.Goals as goal

pub returns : goal.returns
returns c = as-many-lines
