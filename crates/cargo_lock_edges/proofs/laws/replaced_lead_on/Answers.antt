use Rattle.cargo_lock_edges.proofs.OwnLaws.{replaced_lead_on}
use Rattle.cargo_lock_edges.proofs.laws.replaced_lead_on.Goals as goal

pub returns : goal.returns
returns c = replaced_lead_on
