use Rattle.std.proofs.Common.{◌∙◌, ap, arith, map, sym}
use Rattle.std.proofs.lemmas.Simd.{map-map}
use Rattle.cargo_lock_location.proofs.Items.{items-located}
use Rattle.cargo_lock_verify.specs.Archives.{archive_finding_of}
use Rattle.cargo_lock_verify.specs.ArchivesDocument.{archive_finding_json, archive_finding_line_in, lined_archive_json, said_of_archive_finding}
use Rattle.cargo_lock_verify.specs.declared.finding.Finding.{Finding}
use Rattle.cargo_lock_verify.proofs.DocumentDepth.{found-depth}
use Rattle.cargo_lock_verify.proofs.archives_document.archives_json.Goals as goal

pub compared_document-requires : goal.compared_document-requires
compared_document-requires c = λ located. omega (arith, found-depth (said_of_archive_finding located.line (archive_finding_of located.found.now)))

pub returns : goal.returns
returns c =
    let lines = c.args.lines.now in
    let items = items-located (λ line (f : Finding). archive_finding_json line (archive_finding_of f))
    (λ (f : Finding). archive_finding_line_in lines (archive_finding_of f)) c.in_ok-findings.findings.items c.args.report.now.findings.items
    (c.in_ok-findings.ensures ∙ ap (map (λ (f : Finding). (f, archive_finding_line_in lines (archive_finding_of f)))) c.deref.ensures.value) in
    rw (map-map (lined_archive_json lines) archive_finding_of c.args.report.now.findings.items, sym items, sym c.deref-2.ensures.value) c.compared_document.ensures
