use Rattle.std.proofs.Common.{sym}
use Rattle.cargo_lock_audit.proofs.document.put_details.Goals as goal

pub returns : goal.returns
returns c = rw (sym c.advisory.view_is) c.write_details.ensures
