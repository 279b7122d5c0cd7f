use Rattle.cargo_lock_diff.proofs.LastLine.{summary-is-one-line}
use Rattle.cargo_lock_diff.proofs.laws.summaries_are_lines.Goals as goal

pub returns : goal.returns
returns c = summary-is-one-line
