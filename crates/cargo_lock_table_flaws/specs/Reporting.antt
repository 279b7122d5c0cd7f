-- What keeps a table from being read as a lockfile, as findings of reports.
use Rattle.std.specs.Prelude.{ℕ, List, [], map, unwrap_or}
use Rattle.semver.specs.Identifiers.{parts_text}
use Rattle.cargo_lock_location.specs.Lines.{LinesData}
use Rattle.cargo_lock_report.specs.declared.reported.Level.TheVariants.{Error}
use Rattle.cargo_lock_report.specs.Reported.{ReportedData, SpotData, rule_of_kind}
use Rattle.cargo_lock_table_flaws.specs.Document.{line_of_table_finding, table_finding_kind}
use Rattle.cargo_lock_table_flaws.specs.Finding.{TableFindingData, Unread, Unresolved}
use Rattle.cargo_lock_table_flaws.specs.Finding.{table_finding_line}

-- the name of the package of a finding, empty if its table has none
abbrev pub table_finding_name : TableFindingData → List ℕ
table_finding_name (Unread owner key written) = unwrap_or owner.name []
table_finding_name (Unresolved place p f role) = p.name

-- its version
abbrev pub table_finding_version : TableFindingData → List ℕ
table_finding_version (Unread owner key written) = unwrap_or owner.version []
table_finding_version (Unresolved place p f role) = parts_text p.version

-- a finding at a spot, which counts
unfoldable pub table_finding_reported : SpotData → TableFindingData → ReportedData
table_finding_reported spot f = record {
  rule = rule_of_kind (table_finding_kind f);
  level = Error;
  message = table_finding_line f;
  name = table_finding_name f;
  version = table_finding_version f;
  spot = spot;
}

-- a finding in the text at a path, by the lines of the packages
abbrev pub located_table_finding_reported : List ℕ → LinesData → TableFindingData → ReportedData
located_table_finding_reported path lines f =
    table_finding_reported (record { path = path; line = line_of_table_finding lines f }) f

-- all findings, each once and in their order
abbrev pub reported_table_findings : List ℕ → LinesData → List TableFindingData
    → List ReportedData
reported_table_findings path lines = map (located_table_finding_reported path lines)
