use Rattle.cargo_lock_merge.proofs.OneLine.{conflicts-are-lines}
use Rattle.cargo_lock_merge.proofs.laws.conflicts_are_lines.Goals as goal

pub returns : goal.returns
returns c = conflicts-are-lines
