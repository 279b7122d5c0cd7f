use Rattle.std.proofs.Common.{sym}
use Rattle.cargo_lock_check.specs.Document.{lockfile_finding_json}
use Rattle.printing.proofs.Behind.{then}
use Rattle.cargo_lock_check.proofs.document.write_finding.Goals as goal

pub returns : goal.returns
unfolding lockfile_finding_json
returns c = rw (sym c.kind.ensures, sym c.package.ensures) (then c.in_ok-begin_object.ensures
    (then c.in_ok-string_member.ensures (then c.in_ok-displayed_member.ensures
    (then c.in_ok-put_line.ensures (then c.in_ok-put_package_or_null.ensures
    (then c.in_ok-put_other.ensures c.end_object.ensures))))))
