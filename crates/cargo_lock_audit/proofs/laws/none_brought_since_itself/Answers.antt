use Rattle.cargo_lock_audit.proofs.Exact.{none-brought-since-itself}
use Rattle.cargo_lock_audit.proofs.laws.none_brought_since_itself.Goals as goal

pub returns : goal.returns
returns c = none-brought-since-itself
