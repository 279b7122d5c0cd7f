use Rattle.std.proofs.Common.{sym}
use Rattle.cargo_lock_display.proofs.file.put_path.Goals as goal

pub returns : goal.returns
returns c = rw (sym c.file.view_is) c.write_text_or_null.ensures
