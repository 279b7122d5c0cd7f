use Rattle.cargo_lock_merge.proofs.OneLine.{notices-are-lines}
use Rattle.cargo_lock_merge.proofs.laws.notices_are_lines.Goals as goal

pub returns : goal.returns
returns c = notices-are-lines
