use Rattle.std.proofs.Common.{sym}
use Rattle.printing.proofs.Behind.{then}
use Rattle.cargo_lock_merge.specs.Document.{alarm_json}
use Rattle.cargo_lock_merge.proofs.document.write_alarm.Goals as goal

pub returns : goal.returns
unfolding alarm_json
returns c = rw (sym c.sides_without.ensures) (then c.in_ok-begin_object.ensures
    (then c.in_ok-displayed_member.ensures (then c.in_ok-put_package_or_null.ensures
    (then c.in_ok-string_member.ensures c.end_object.ensures))))
