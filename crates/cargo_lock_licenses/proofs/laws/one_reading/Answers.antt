use Rattle.cargo_lock_licenses.proofs.OneTree.{one-reading}
use Rattle.cargo_lock_licenses.proofs.laws.one_reading.Goals as goal

pub returns : goal.returns
returns c = one-reading
