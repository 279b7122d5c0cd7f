use Rattle.std.proofs.Common.{sym}
use Rattle.printing.proofs.Behind.{then}
use Rattle.cargo_lock_audit.proofs.document.put_advisory.Goals as goal

pub returns : goal.returns
returns c = rw (sym c.advisory.view_is, sym c.as_str.ensures.value, sym c.as_str-2.ensures.value, sym c.deref.ensures.value)
    (then c.in_ok-string_member.ensures (then c.in_ok-string_member-2.ensures c.put_requirements.ensures))
