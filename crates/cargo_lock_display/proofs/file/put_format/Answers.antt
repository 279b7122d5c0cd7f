use Rattle.std.proofs.Common.{sym}
use Rattle.cargo_lock_display.proofs.file.put_format.Goals as goal

pub returns : goal.returns
returns c = rw (sym c.file.view_is, sym c.from.ensures) c.number_member.ensures
