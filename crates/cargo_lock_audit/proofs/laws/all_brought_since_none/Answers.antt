use Rattle.cargo_lock_audit.proofs.Exact.{all-brought-since-none}
use Rattle.cargo_lock_audit.proofs.laws.all_brought_since_none.Goals as goal

pub returns : goal.returns
returns c = all-brought-since-none
