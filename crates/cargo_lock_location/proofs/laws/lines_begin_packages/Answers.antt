use Rattle.cargo_lock_location.proofs.Numbers.{lines_begin_packages}
use Rattle.cargo_lock_location.proofs.laws.lines_begin_packages.Goals as goal

pub returns : goal.returns
returns c = lines_begin_packages
