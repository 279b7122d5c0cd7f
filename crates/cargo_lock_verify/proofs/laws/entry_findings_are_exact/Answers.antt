use Rattle.cargo_lock_verify.proofs.ExactEntries.{entry-findings-are-exact}
use Rattle.cargo_lock_verify.proofs.laws.entry_findings_are_exact.Goals as goal

pub returns : goal.returns
returns c = entry-findings-are-exact
