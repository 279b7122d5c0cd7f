use Rattle.std.proofs.Common.{codes, sym}
use Rattle.cargo_lock_display.specs.File.{document_json}
use Rattle.cargo_lock_display.proofs.Begins.{begins}
use Rattle.printing.proofs.Behind.{then}
use Rattle.cargo_lock_verify.specs.Document.{compared_json}
use Rattle.cargo_lock_verify.proofs.document.ComparisonToJson.write_json.Goals as goal

pub returns : goal.returns
unfolding document_json compared_json
returns g c = rw (sym c.missing_key.ensures, sym c.not_compared_key-not_compared.ensures)
    (begins (codes "cargo-lock-verify/2") c.args.self.now.file.now _ c.in_ok-begin_document.ensures
    (then c.in_ok-number_member.ensures (then c.in_ok-number_member-2.ensures
    (then c.in_ok-number_member-3.ensures (then c.in_ok-number_member-4.ensures
    (then c.in_ok-number_member-5.ensures (then c.in_ok-put_passed_over.ensures
    (then c.in_ok-key.ensures (then c.in_ok-write_array.ensures c.end_object.ensures)))))))))
