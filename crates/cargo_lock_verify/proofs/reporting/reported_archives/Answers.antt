use Rattle.std.proofs.Common.{◌++◌, ◌∷◌, [], ◌∙◌, List, ap, map, sym, take}
use Rattle.std.proofs.lemmas.List.{map-append, map_more}
use Rattle.cargo_lock_report.specs.Reported.{ReportedData}
use Rattle.cargo_lock_verify.specs.Archives.{ArchiveFindingData, archive_finding_of}
use Rattle.cargo_lock_verify.specs.Reporting.{reported_archive}
use Rattle.cargo_lock_verify.specs.declared.finding.Finding.{Finding}
use Rattle.cargo_lock_verify.proofs.reporting.reported_archives.Goals as goal

pub loop-finding-preserved : goal.loop-finding-preserved
loop-finding-preserved c =
    let l = c.loop-finding in
    let all = c.as_slice-findings.result.now in
    let x = c.finding-item.result in
    let kept : ArchiveFindingData → ReportedData = reported_archive c.missing_counts-missing.result c.args.path.now c.args.lines.now in
    c.in_ok-push.ensures.items
    ∙ ap (λ (r : ReportedData). l.reported.items ++ r ∷ []) c.in_ok-archive_at_line.ensures
    ∙ ap (λ (rs : List ReportedData). rs ++ kept (archive_finding_of x) ∷ []) l.invariant
    ∙ sym (map-append kept (map archive_finding_of (take l.finding-index all)) (archive_finding_of x ∷ []))
    ∙ ap (map kept)
    (ap (λ (y : Finding). map archive_finding_of (take l.finding-index all) ++ archive_finding_of y ∷ []) c.finding-item.is
    ∙ sym (map_more archive_finding_of all l.finding-index x c.loop-finding-test.true))
