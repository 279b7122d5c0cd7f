use Rattle.cargo_lock_audit.proofs.Exact.{ignoring-leaves-out}
use Rattle.cargo_lock_audit.proofs.laws.ignoring_leaves_out.Goals as goal

pub returns : goal.returns
returns c = ignoring-leaves-out
