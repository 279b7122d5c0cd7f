use Rattle.cargo_lock_verify.proofs.Classes.{counts-are-partition}
use Rattle.cargo_lock_verify.proofs.laws.counts_are_partition.Goals as goal

pub returns : goal.returns
returns c = counts-are-partition
