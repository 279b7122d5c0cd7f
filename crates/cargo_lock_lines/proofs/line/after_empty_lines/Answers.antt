use Rattle.cargo_lock_lines.proofs.HeldWords.{Holds-then}
use Rattle.cargo_lock_lines.proofs.line.after_empty_lines.Goals as goal

pub returns : goal.returns
returns c = Holds-then c.after_empty_line.ensures c.after_empty_line-2.ensures
