use Rattle.std.proofs.Common.{◌≡◌, ◌∙◌, ◌∷◌, [], ap, arith, length, subst, sym}
use Rattle.std.proofs.lemmas.List.{length-map}
use Rattle.cargo_lock_display.specs.File.{FileData}
use Rattle.cargo_lock_table_flaws.specs.Document.{table_findings_json}
use Rattle.cargo_lock_table_flaws.specs.Finding.{table_finding_of}
use Rattle.cargo_lock_table_flaws.specs.Report.{TableReportData}
use Rattle.cargo_lock_table_flaws.specs.Reporting.{reported_table_findings}
use Rattle.cli_input.specs.Json.{document_path}
use Rattle.cli_input.specs.Told.{IsToldAs}
use Rattle.cli.specs.Check.{checked_report, named_of, table_text}
use Rattle.cli.proofs.refused.checked_report.Goals as goal

pub returns : goal.returns
returns c =
    let form = c.args.form in
    let named = named_of c.args.named in
    let report : TableReportData = c.args.report.now in
    let lines = c.args.lines.now in
    let told = c.in_ok-told.told in
    let format : c.report.inside.format ≡ report.format =
    ap (λ (r : TableReportData). r.format) c.report.view_is in
    let counted : length c.report.inside.findings.items ≡ length report.findings =
    sym (length-map c.report.inside.findings.items table_finding_of)
    ∙ ap (λ (r : TableReportData). length r.findings) c.report.view_is in
    let ok = c.report.inside.findings.ok.0 in
    let len = c.len-findings.ensures in
    c.of_one.ensures form (checked_report named c.args.text.now lines report)
    (subst
    (λ (f : FileData). IsToldAs form
    (record {
      lines = table_text named.prefix report.findings;
      document = table_findings_json f lines report.findings;
      reported = reported_table_findings named.path lines report.findings;
    } ∷ []) told)
    (c.file_at-file.ensures ∙ ap (λ v. record { path = document_path named.argument; format = v }) format)
    c.in_ok-told.ensures)
    (ap (λ (r : TableReportData). r.packages) c.report.view_is) (omega (arith, counted, ok, len))
