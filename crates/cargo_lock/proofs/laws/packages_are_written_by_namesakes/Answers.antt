use Rattle.cargo_lock.proofs.ShortestReferences.{written-by_bearers}
use Rattle.cargo_lock.proofs.laws.packages_are_written_by_namesakes.Goals as goal

pub returns : goal.returns
returns c = written-by_bearers
