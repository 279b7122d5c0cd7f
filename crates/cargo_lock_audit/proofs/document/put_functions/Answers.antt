use Rattle.printing.proofs.Behind.{then}
use Rattle.cargo_lock_audit.proofs.document.put_functions.Goals as goal

pub returns : goal.returns
returns c = then c.in_ok-key.ensures c.write_functions.ensures
