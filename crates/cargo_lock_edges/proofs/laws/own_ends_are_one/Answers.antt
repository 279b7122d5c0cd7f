use Rattle.cargo_lock_edges.proofs.LeadsOnce.{own_ends_are_one}
use Rattle.cargo_lock_edges.proofs.laws.own_ends_are_one.Goals as goal

pub returns : goal.returns
returns c = own_ends_are_one
