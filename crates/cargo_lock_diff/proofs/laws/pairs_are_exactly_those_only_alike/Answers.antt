use Rattle.cargo_lock_diff.proofs.Exact.{paired_exactly}
use Rattle.cargo_lock_diff.proofs.laws.pairs_are_exactly_those_only_alike.Goals as goal

pub returns : goal.returns
returns c = paired_exactly
