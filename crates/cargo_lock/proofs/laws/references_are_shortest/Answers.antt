use Rattle.cargo_lock.proofs.ShortestReferences.{shortest-references}
use Rattle.cargo_lock.proofs.laws.references_are_shortest.Goals as goal

pub returns : goal.returns
returns c = shortest-references
