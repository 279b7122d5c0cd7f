use Rattle.printing.proofs.LinesOf.{printable-lines}
use Rattle.printing.proofs.laws.printable_are_lines.Goals as goal

pub returns : goal.returns
returns c = printable-lines
