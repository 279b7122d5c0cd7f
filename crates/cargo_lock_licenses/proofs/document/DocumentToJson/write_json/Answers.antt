use Rattle.std.proofs.Common.{codes}
use Rattle.json.specs.Json.{string}
use Rattle.cargo_lock_licenses.specs.Report.{UnmetData, unmet_of}
use Rattle.cargo_lock_licenses.specs.Document.{licenses_document, unmet_words}
use Rattle.cargo_lock_display.specs.File.{document_json}
use Rattle.cargo_lock_display.proofs.Begins.{begins}
use Rattle.printing.proofs.Arrays.{by_another}
use Rattle.printing.proofs.Behind.{then}
use Rattle.cargo_lock_licenses.proofs.document.DocumentToJson.write_json.Goals as goal

pub returns : goal.returns
unfolding licenses_document document_json
returns c = begins (codes "cargo-lock-licenses/1") c.args.self.now.file.now _ c.in_ok-begin_document.ensures
    (then c.in_ok-key.ensures
    (then c.in_ok-write_array.ensures
    (then c.in_ok-key-2.ensures
    (then (by_another (λ (u : UnmetData). string (unmet_words u)) unmet_of _ c.in_ok-write_array-2.ensures) c.end_object.ensures))))
