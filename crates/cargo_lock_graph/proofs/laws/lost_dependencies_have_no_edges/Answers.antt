use Rattle.cargo_lock_graph.proofs.EdgesOnce.{lost_have_no_edges}
use Rattle.cargo_lock_graph.proofs.laws.lost_dependencies_have_no_edges.Goals as goal

pub returns : goal.returns
returns c = lost_have_no_edges
