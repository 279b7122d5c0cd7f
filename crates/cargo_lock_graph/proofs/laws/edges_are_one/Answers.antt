use Rattle.cargo_lock_graph.proofs.EdgesOnce.{edges_are_one}
use Rattle.cargo_lock_graph.proofs.laws.edges_are_one.Goals as goal

pub returns : goal.returns
returns c = edges_are_one
