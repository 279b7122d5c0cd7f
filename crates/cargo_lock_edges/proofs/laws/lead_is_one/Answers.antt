use Rattle.cargo_lock_edges.proofs.LeadsOnce.{lead_is_one}
use Rattle.cargo_lock_edges.proofs.laws.lead_is_one.Goals as goal

pub returns : goal.returns
returns c = lead_is_one
