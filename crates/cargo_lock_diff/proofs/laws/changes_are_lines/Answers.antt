use Rattle.cargo_lock_diff.proofs.OneLine.{each-change-is-one-line}
use Rattle.cargo_lock_diff.proofs.laws.changes_are_lines.Goals as goal

pub returns : goal.returns
returns c = each-change-is-one-line
