use Rattle.cargo_lock_merge.proofs.OneLine.{refusals-are-lines}
use Rattle.cargo_lock_merge.proofs.laws.refusals_are_lines.Goals as goal

pub returns : goal.returns
returns c = refusals-are-lines
