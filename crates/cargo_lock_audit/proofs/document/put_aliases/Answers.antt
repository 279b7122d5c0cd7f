use Rattle.std.proofs.Common.{sym}
use Rattle.cargo_lock_audit.proofs.document.put_aliases.Goals as goal

pub returns : goal.returns
returns c = rw (sym c.advisory.view_is, sym c.deref.ensures.value) c.put_texts.ensures
