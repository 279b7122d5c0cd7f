use Rattle.printing.proofs.Printable.{shown-printable}
use Rattle.printing.proofs.laws.shown_is_printable.Goals as goal

pub returns : goal.returns
returns c = shown-printable
