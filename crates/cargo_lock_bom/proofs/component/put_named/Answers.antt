use Rattle.printing.proofs.Behind.{then}
use Rattle.cargo_lock_bom.proofs.component.put_named.Goals as goal

pub returns : goal.returns
returns c = then c.in_ok-begin_object.ensures (then c.in_ok-key.ensures (then c.in_ok-put_declared.ensures c.end_object.ensures))
