use Rattle.cargo_lock_bom.proofs.Closed.{listed_closed}
use Rattle.cargo_lock_bom.proofs.laws.what_is_listed_is_closed.Goals as goal

pub returns : goal.returns
returns c = listed_closed
