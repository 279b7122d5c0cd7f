use Rattle.std.proofs.Common.{sym}
use Rattle.printing.proofs.Behind.{then}
use Rattle.cargo_lock_query.proofs.why_document.put_needed_by.Goals as goal

pub returns-in-Needed : goal.returns-in-Needed
returns-in-Needed c = rw (c.in-Needed.is, sym c.deref.ensures.value) (then c.in_ok-key.ensures c.put_packages.ensures)

pub returns-in-Nothing : goal.returns-in-Nothing
returns-in-Nothing c = rw c.in-Nothing.is (then c.in_ok-key.ensures c.null.ensures)
