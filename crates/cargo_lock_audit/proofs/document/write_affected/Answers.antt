use Rattle.std.proofs.Common.{sym}
use Rattle.cargo_lock_audit.specs.Document.{affected_json}
use Rattle.printing.proofs.Behind.{then}
use Rattle.cargo_lock_audit.proofs.document.write_affected.Goals as goal

pub returns : goal.returns
unfolding affected_json
returns c = rw (sym c.affected.view_is, sym c.deref.ensures.value, sym c.deref-2.ensures.value, sym c.deref-3.ensures.value)
    (then c.in_ok-begin_object.ensures (then c.in_ok-put_functions.ensures
    (then c.in_ok-put_texts.ensures (then c.in_ok-put_texts-2.ensures c.end_object.ensures))))
