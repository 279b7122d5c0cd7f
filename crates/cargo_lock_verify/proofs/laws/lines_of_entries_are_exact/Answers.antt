use Rattle.cargo_lock_verify.proofs.ExactEntries.{lines-of-entries-are-exact}
use Rattle.cargo_lock_verify.proofs.laws.lines_of_entries_are_exact.Goals as goal

pub returns : goal.returns
returns c = lines-of-entries-are-exact
