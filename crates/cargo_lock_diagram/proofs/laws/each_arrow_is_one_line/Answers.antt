use Rattle.cargo_lock_diagram.proofs.DiagramLines.{arrow-line}
use Rattle.cargo_lock_diagram.proofs.laws.each_arrow_is_one_line.Goals as goal

pub returns : goal.returns
returns c = arrow-line
