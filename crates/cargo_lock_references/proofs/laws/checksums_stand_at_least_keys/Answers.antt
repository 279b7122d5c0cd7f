use Rattle.cargo_lock_references.proofs.LeastKeys.{checksum_at_least_key}
use Rattle.cargo_lock_references.proofs.laws.checksums_stand_at_least_keys.Goals as goal

pub returns : goal.returns
returns c = checksum_at_least_key
