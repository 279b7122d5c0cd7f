use Rattle.std.proofs.Common.{sym}
use Rattle.cargo_lock_table_flaws.specs.Document.{table_finding_json}
use Rattle.printing.proofs.Behind.{then}
use Rattle.cargo_lock_table_flaws.proofs.document.write_finding.Goals as goal

pub returns : goal.returns
unfolding table_finding_json
returns c = rw (sym c.kind.ensures) (then c.in_ok-begin_object.ensures
    (then c.in_ok-string_member.ensures (then c.in_ok-displayed_member.ensures
    (then c.in_ok-put_line.ensures (then c.in_ok-put_owner.ensures
    (then c.in_ok-null_member.ensures c.end_object.ensures))))))
