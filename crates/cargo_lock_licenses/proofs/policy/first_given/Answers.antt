use Rattle.cargo_lock_licenses.specs.Policy.{gives}
use Rattle.cargo_lock_licenses.proofs.Policies.{first-given}
use Rattle.cargo_lock_licenses.proofs.policy.first_given.Goals as goal

pub returns : goal.returns
returns c = first-given (gives c.args.package.now) c.first_of.result c.args.given.now c.first_of.ensures
