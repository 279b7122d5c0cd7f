use Rattle.cargo_lock_edges.proofs.OwnLaws.{lost_have_no_own_edges}
use Rattle.cargo_lock_edges.proofs.laws.lost_dependencies_have_no_own_edges.Goals as goal

pub returns : goal.returns
returns c = lost_have_no_own_edges
