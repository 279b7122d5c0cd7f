use Rattle.cargo_lock_encoding.proofs.PrintedTables.{text-is-read}
use Rattle.cargo_lock_encoding.proofs.laws.text_is_read.Goals as goal

pub returns : goal.returns
returns c = text-is-read
