use Rattle.cargo_lock_licenses.proofs.Policies.{given-reach-their-own}
use Rattle.cargo_lock_licenses.proofs.laws.given_reach_their_own.Goals as goal

pub returns : goal.returns
returns c = given-reach-their-own
