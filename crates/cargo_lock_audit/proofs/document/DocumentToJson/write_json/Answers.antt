use Rattle.std.proofs.Common.{codes, sym}
use Rattle.json.specs.Json.{string}
use Rattle.cargo_lock_audit.specs.Findings.{id_of}
use Rattle.cargo_lock_audit.specs.Document.{advisories_document}
use Rattle.cargo_lock_display.specs.File.{document_json}
use Rattle.cargo_lock_display.proofs.Begins.{begins}
use Rattle.printing.proofs.Arrays.{by_another}
use Rattle.printing.proofs.Behind.{then}
use Rattle.cargo_lock_audit.proofs.document.DocumentToJson.write_json.Goals as goal

pub returns : goal.returns
unfolding advisories_document document_json
returns c = rw (sym c.deref.ensures.value)
    (begins (codes "cargo-lock-audit/1") c.args.self.now.file.now _ c.in_ok-begin_document.ensures
    (then c.in_ok-key.ensures
    (then c.in_ok-write_array.ensures
    (then c.in_ok-key-2.ensures
    (then (by_another string id_of _ c.in_ok-write_array-2.ensures)
    (then c.in_ok-put_coverage.ensures c.end_object.ensures))))))
