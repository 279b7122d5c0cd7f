use Rattle.cargo_lock_diagram.proofs.DiagramLines.{package-line}
use Rattle.cargo_lock_diagram.proofs.laws.each_package_is_one_line.Goals as goal

pub returns : goal.returns
returns c = package-line
