use Rattle.printing.proofs.Apart.{apart}
use Rattle.printing.proofs.laws.shown_apart.Goals as goal

pub returns : goal.returns
returns c = apart
