use Rattle.std.proofs.Common.{◌∙◌, ap, arith, map, sym}
use Rattle.std.proofs.lemmas.Simd.{map-map}
use Rattle.cargo_lock_location.proofs.Items.{items-located}
use Rattle.cargo_lock_verify.specs.Vendored.{folder_finding_of}
use Rattle.cargo_lock_verify.specs.FoldersDocument.{folder_finding_json, folder_finding_line_in, lined_folder_json, said_of_folder_finding}
use Rattle.cargo_lock_verify.specs.declared.folder.FolderFinding.{FolderFinding}
use Rattle.cargo_lock_verify.proofs.DocumentDepth.{found-depth}
use Rattle.cargo_lock_verify.proofs.folders_document.folders_json.Goals as goal

pub compared_document-requires : goal.compared_document-requires
compared_document-requires c = λ located. omega (arith, found-depth (said_of_folder_finding located.line (folder_finding_of located.found.now)))

pub returns : goal.returns
returns c =
    let lines = c.args.lines.now in
    let items = items-located (λ line (f : FolderFinding). folder_finding_json line (folder_finding_of f))
    (λ (f : FolderFinding). folder_finding_line_in lines (folder_finding_of f)) c.in_ok-findings.findings.items c.args.report.now.findings.items
    (c.in_ok-findings.ensures ∙ ap (map (λ (f : FolderFinding). (f, folder_finding_line_in lines (folder_finding_of f)))) c.deref.ensures.value) in
    rw (map-map (lined_folder_json lines) folder_finding_of c.args.report.now.findings.items, sym items, sym c.deref-2.ensures.value) c.compared_document.ensures
