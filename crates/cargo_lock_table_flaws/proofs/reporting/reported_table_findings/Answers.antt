use Rattle.std.proofs.Common.{◌≡◌, ◌∙◌, ap, map}
use Rattle.std.proofs.lemmas.Result.{IfOk-weaker}
use Rattle.cargo_lock_report.proofs.Filtered.{each-kept}
use Rattle.cargo_lock_table_flaws.specs.Finding.{table_finding_of}
use Rattle.cargo_lock_table_flaws.specs.Report.{TableReportData}
use Rattle.cargo_lock_table_flaws.specs.Reporting.{located_table_finding_reported, reported_table_findings}
use Rattle.cargo_lock_table_flaws.proofs.reporting.reported_table_findings.Goals as goal

pub returns : goal.returns
returns c =
    let told : map table_finding_of c.as_slice.result.now ≡ c.args.report.now.findings =
    ap (map table_finding_of) c.as_slice.ensures.value ∙ ap (λ (r : TableReportData). r.findings) c.report.view_is in
    IfOk-weaker c.reports.result _ _ (λ reported is. is
    ∙ each-kept table_finding_of (located_table_finding_reported c.args.path.now c.args.lines.now) c.as_slice.result.now
    ∙ ap (reported_table_findings c.args.path.now c.args.lines.now) told) c.reports.ensures
