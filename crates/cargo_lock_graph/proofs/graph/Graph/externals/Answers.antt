use Rattle.cargo_lock_graph.proofs.GraphEnds.{externals-below}
use Rattle.cargo_lock_graph.proofs.graph.Graph.externals.Goals as goal

pub returns-clause-within : goal.returns-clause-within
returns-clause-within c = externals-below c.args.direction c.args.self.now
