use Rattle.printing.proofs.Printable.{as-it-stands}
use Rattle.printing.proofs.laws.shown_as_it_stands.Goals as goal

pub returns : goal.returns
returns c = as-it-stands
