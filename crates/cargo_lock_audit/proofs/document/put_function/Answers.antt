use Rattle.std.proofs.Common.{sym}
use Rattle.cargo_lock_audit.proofs.document.put_function.Goals as goal

pub returns : goal.returns
returns c = rw (sym c.function.view_is, sym c.as_str.ensures.value, sym c.deref.ensures.value) c.put_texts.ensures
