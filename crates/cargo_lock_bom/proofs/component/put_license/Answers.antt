use Rattle.printing.proofs.Behind.{then}
use Rattle.cargo_lock_bom.proofs.component.put_license.Goals as goal

pub returns : goal.returns
returns c = then c.in_ok-key.ensures (then c.in_ok-begin_array.ensures (then c.in_ok-put_license_data.ensures c.end_array.ensures))
