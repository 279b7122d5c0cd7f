use Rattle.printing.proofs.Behind.{then}
use Rattle.cargo_lock_report.proofs.log.put_line.Goals as goal

pub returns : goal.returns
returns c = then c.in_ok-key.ensures (then c.in_ok-begin_object.ensures
    (then c.in_ok-number_member.ensures c.end_object.ensures))
