use Rattle.cargo_lock_licenses.proofs.Verdicts.{more-add-no-finding}
use Rattle.cargo_lock_licenses.proofs.laws.more_add_no_finding.Goals as goal

pub returns : goal.returns
returns c = more-add-no-finding
