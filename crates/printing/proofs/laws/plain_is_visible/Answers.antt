use Rattle.printing.proofs.Printable.{plain-visible}
use Rattle.printing.proofs.laws.plain_is_visible.Goals as goal

pub returns : goal.returns
returns c = plain-visible
