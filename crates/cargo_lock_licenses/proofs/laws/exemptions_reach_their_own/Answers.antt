use Rattle.cargo_lock_licenses.proofs.Policies.{exemptions-reach-their-own}
use Rattle.cargo_lock_licenses.proofs.laws.exemptions_reach_their_own.Goals as goal

pub returns : goal.returns
returns c = exemptions-reach-their-own
