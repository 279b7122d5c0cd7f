use Rattle.printing.proofs.Behind.{then}
use Rattle.cargo_lock_bom.proofs.component.put_package.Goals as goal

pub returns : goal.returns
returns c = then c.in_ok-key.ensures c.put_component.ensures
