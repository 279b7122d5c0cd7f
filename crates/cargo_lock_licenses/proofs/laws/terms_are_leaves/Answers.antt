use Rattle.cargo_lock_licenses.proofs.Leaves.{terms-are-leaves}
use Rattle.cargo_lock_licenses.proofs.laws.terms_are_leaves.Goals as goal

pub returns : goal.returns
returns c = terms-are-leaves
