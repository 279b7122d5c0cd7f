use Rattle.std.proofs.Common.{sym}
use Rattle.cargo_lock_diff.specs.Document.{change_json}
use Rattle.printing.proofs.Behind.{then}
use Rattle.cargo_lock_diff.proofs.change_json.ChangeLined.write_json_at.Goals as goal

pub returns : goal.returns
unfolding change_json
returns c = rw (sym c.kind.ensures, sym c.is_alarm.ensures, sym c.old.ensures, sym c.new.ensures)
    (then c.in_ok-begin_object.ensures (then c.in_ok-string_member.ensures
    (then c.in_ok-boolean_member.ensures (then c.in_ok-put_line.ensures (then c.in_ok-put_package_or_null.ensures
    (then c.in_ok-put_package_or_null-2.ensures (then c.in_ok-put_removed.ensures
    (then c.in_ok-put_added.ensures c.end_object.ensures))))))))
