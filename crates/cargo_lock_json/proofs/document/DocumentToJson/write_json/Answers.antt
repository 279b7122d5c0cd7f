use Rattle.std.proofs.Common.{codes, sym}
use Rattle.cargo_lock_json.specs.Document.{lockfile_json}
use Rattle.cargo_lock_display.specs.File.{document_json}
use Rattle.cargo_lock_display.proofs.Begins.{begins}
use Rattle.printing.proofs.Behind.{then}
use Rattle.cargo_lock_json.proofs.document.DocumentToJson.write_json.Goals as goal

pub returns : goal.returns
unfolding document_json lockfile_json
returns c = rw (sym c.lockfile.view_is)
    (begins (codes "cargo-lock-lockfile/1") c.args.self.now.file.now _ c.in_ok-begin_document.ensures
    (then c.in_ok-put_packages.ensures (then c.in_ok-put_root.ensures
    (then c.in_ok-put_metadata.ensures (then c.in_ok-put_patch.ensures c.end_object.ensures)))))
