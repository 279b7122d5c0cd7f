use Rattle.std.proofs.Common.{◌≡◌, ◌∙◌, ap, arith, map, sym}
use Rattle.std.proofs.lemmas.Simd.{map-map}
use Rattle.cargo_lock_location.proofs.Items.{items-located}
use Rattle.cargo_lock_table_flaws.specs.Finding.{table_finding_of}
use Rattle.cargo_lock_table_flaws.specs.Document.{line_of_table_finding, located_table_finding_json, table_finding_json, table_findings_json}
use Rattle.cargo_lock_table_flaws.specs.Report.{TableReportData}
use Rattle.cargo_lock_table_flaws.specs.declared.finding.TableFinding.{TableFinding}
use Rattle.cargo_lock_table_flaws.proofs.DocumentDepth.{table-finding-depth}
use Rattle.cargo_lock_table_flaws.proofs.document.table_findings_json.Goals as goal

pub list_document-requires : goal.list_document-requires
list_document-requires c = λ located. omega (arith, table-finding-depth located.line (table_finding_of located.found.now))

pub returns : goal.returns
unfolding table_findings_json
returns c =
    let lines = c.args.lines.now in
    let told : c.args.report.now.findings ≡ map table_finding_of c.as_slice.result.now =
    sym (ap (map table_finding_of) c.as_slice.ensures.value ∙ ap (λ (r : TableReportData). r.findings) c.report.view_is) in
    let items = items-located (λ line (x : TableFinding). table_finding_json line (table_finding_of x))
    (λ (x : TableFinding). line_of_table_finding lines (table_finding_of x)) c.in_ok-located.located.items c.as_slice.result.now c.in_ok-located.ensures in
    rw (told, map-map (located_table_finding_json lines) table_finding_of c.as_slice.result.now, sym items, sym c.deref.ensures.value) c.list_document.ensures
