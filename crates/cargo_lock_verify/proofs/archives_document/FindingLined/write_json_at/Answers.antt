use Rattle.std.proofs.Common.{sym}
use Rattle.cargo_lock_verify.specs.Document.{found_json}
use Rattle.printing.proofs.Behind.{then}
use Rattle.cargo_lock_verify.proofs.archives_document.FindingLined.write_json_at.Goals as goal

pub returns : goal.returns
unfolding found_json
returns c = rw (sym c.kind.ensures, sym c.expected.ensures, sym c.package.ensures, sym c.path.ensures, sym c.digest.ensures)
    (then c.in_ok-begin_object.ensures (then c.in_ok-string_member.ensures
    (then c.in_ok-displayed_member.ensures (then c.in_ok-put_line.ensures
    (then c.in_ok-put_package_or_null.ensures (then c.in_ok-write_text_or_null.ensures
    (then c.in_ok-put_digest_or_null.ensures (then c.in_ok-put_digest_or_null-2.ensures c.end_object.ensures))))))))
