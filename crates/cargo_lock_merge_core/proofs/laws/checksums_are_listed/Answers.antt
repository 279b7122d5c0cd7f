use Rattle.cargo_lock_merge_core.proofs.Origins.{checksums-listed}
use Rattle.cargo_lock_merge_core.proofs.laws.checksums_are_listed.Goals as goal

pub returns : goal.returns
returns c = checksums-listed
