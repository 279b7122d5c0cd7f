use Rattle.cargo_lock_merge.proofs.OneLine.{moved-are-lines}
use Rattle.cargo_lock_merge.proofs.laws.moved_are_lines.Goals as goal

pub returns : goal.returns
returns c = moved-are-lines
