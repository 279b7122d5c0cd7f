use Rattle.cargo_lock.proofs.KeyTexts.{equal_tables_and_texts}
use Rattle.cargo_lock.proofs.laws.equal_lockfiles_are_written_alike.Goals as goal

pub returns : goal.returns
returns c = equal_tables_and_texts
