use Rattle.cargo_lock.proofs.TextChains.{same-by-texts}
use Rattle.cargo_lock.proofs.laws.texts_lead_as_tables.Goals as goal

pub returns : goal.returns
returns c = same-by-texts
