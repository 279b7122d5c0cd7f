use Rattle.std.proofs.Common.{sym}
use Rattle.printing.proofs.Behind.{then}
use Rattle.cargo_lock_display.proofs.package_json.begin_identity.Goals as goal

pub returns : goal.returns
returns c = rw (sym c.as_str.ensures) (then c.in_ok-begin_object.ensures
    (then c.in_ok-string_member.ensures
    (then c.in_ok-displayed_member.ensures c.put_source.ensures)))
