use Rattle.printing.proofs.Behind.{then}
use Rattle.cargo_lock_bom.proofs.component.put_declared.Goals as goal

pub returns : goal.returns
returns c = then c.in_ok-begin_object.ensures (then c.in_ok-string_member.ensures (then c.in_ok-string_member-2.ensures c.end_object.ensures))
