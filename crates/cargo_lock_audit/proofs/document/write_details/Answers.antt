use Rattle.std.proofs.Common.{sym}
use Rattle.printing.proofs.Behind.{then}
use Rattle.cargo_lock_audit.proofs.document.write_details.Goals as goal

pub returns : goal.returns
returns c = rw (
  sym c.details.view_is,
  sym c.as_str.ensures.value,
  sym c.deref.ensures.value,
  sym c.deref-2.ensures.value,
  sym c.deref-3.ensures.value,
) (then c.in_ok-string_member.ensures (then c.in_ok-put_text_or_null.ensures (then c.in_ok-put_text_or_null-2.ensures
    (then c.in_ok-put_texts.ensures (then c.in_ok-put_texts-2.ensures (then c.in_ok-put_texts-3.ensures c.put_affected.ensures))))))
