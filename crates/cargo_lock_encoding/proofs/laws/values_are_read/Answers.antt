use Rattle.cargo_lock_encoding.proofs.PrintedTables.{values-are-read}
use Rattle.cargo_lock_encoding.proofs.laws.values_are_read.Goals as goal

pub returns : goal.returns
returns c = values-are-read
