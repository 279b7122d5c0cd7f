use Rattle.cargo_lock_audit.proofs.Exact.{same-found-since}
use Rattle.cargo_lock_audit.proofs.laws.same_found_since.Goals as goal

pub returns : goal.returns
returns c = same-found-since
