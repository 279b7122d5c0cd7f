use Rattle.cargo_lock_edges.proofs.OwnLaws.{identity_is_nearest}
use Rattle.cargo_lock_edges.proofs.laws.identity_is_nearest.Goals as goal

pub returns : goal.returns
returns c = identity_is_nearest
