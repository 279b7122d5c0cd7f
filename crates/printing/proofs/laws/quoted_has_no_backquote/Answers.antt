use Rattle.printing.proofs.Printable.{quoted-no_backquote}
use Rattle.printing.proofs.laws.quoted_has_no_backquote.Goals as goal

pub returns : goal.returns
returns c = quoted-no_backquote
