use Rattle.cargo_lock_licenses.proofs.Policies.{more-exemptions-add-no-finding}
use Rattle.cargo_lock_licenses.proofs.laws.more_exemptions_add_no_finding.Goals as goal

pub returns : goal.returns
returns c = more-exemptions-add-no-finding
