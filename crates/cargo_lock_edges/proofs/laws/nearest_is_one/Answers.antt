use Rattle.cargo_lock_edges.proofs.LeadsOnce.{nearest_is_one}
use Rattle.cargo_lock_edges.proofs.laws.nearest_is_one.Goals as goal

pub returns : goal.returns
returns c = nearest_is_one
