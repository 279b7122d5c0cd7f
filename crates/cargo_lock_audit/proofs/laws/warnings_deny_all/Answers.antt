use Rattle.cargo_lock_audit.proofs.Exact.{warnings-deny-all}
use Rattle.cargo_lock_audit.proofs.laws.warnings_deny_all.Goals as goal

pub returns : goal.returns
returns c = warnings-deny-all
