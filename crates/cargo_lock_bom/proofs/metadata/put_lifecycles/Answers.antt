use Rattle.printing.proofs.Behind.{then}
use Rattle.cargo_lock_bom.proofs.metadata.put_lifecycles.Goals as goal

pub returns : goal.returns
returns c = then c.in_ok-key.ensures (then c.in_ok-begin_array.ensures (then c.in_ok-begin_object.ensures (then c.in_ok-string_member.ensures (then c.in_ok-end_object.ensures c.end_array.ensures))))
