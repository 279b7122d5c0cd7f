use Rattle.printing.proofs.Behind.{then}
use Rattle.cargo_lock_display.specs.File.{document_json, list_document}
use Rattle.cargo_lock_display.proofs.Begins.{begins}
use Rattle.cargo_lock_display.proofs.file.ListDocumentToJson.write_json.Goals as goal

pub returns : goal.returns
unfolding document_json list_document
returns g c =
    begins c.args.self.now.schema.now c.args.self.now.file.now _ c.in_ok-begin_document.ensures
    (then c.in_ok-key.ensures (then c.in_ok-write_array.ensures c.end_object.ensures))
