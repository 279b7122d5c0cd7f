use Rattle.printing.proofs.Behind.{then}
use Rattle.cargo_lock_display.proofs.file.begin_document.Goals as goal

pub returns : goal.returns
returns c = then c.in_ok-begin_object.ensures
    (then c.in_ok-string_member.ensures (then c.in_ok-put_path.ensures c.put_format.ensures))
