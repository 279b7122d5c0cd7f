-- What is said of the licences of packages, as findings of reports.
use Rattle.std.specs.Prelude.{ℕ, List, None, Option, Some, if◌then◌else◌}
use Rattle.std.specs.List.{filter_map}
use Rattle.cargo_lock_licenses.specs.Document.{judged_line_in, verdict_kind, verdict_package}
use Rattle.cargo_lock_licenses.specs.Judged.{JudgedData, is_judged_finding, judged_line}
use Rattle.cargo_lock_location.specs.Lines.{LinesData}
use Rattle.cargo_lock_report.specs.declared.reported.Level.TheVariants.{Error}
use Rattle.cargo_lock_report.specs.Reported.{ReportedData, SpotData, reported_of, rule_of_kind}

-- a finding at a spot, which counts
unfoldable pub judged_reported : SpotData → JudgedData → ReportedData
judged_reported spot j = reported_of (rule_of_kind (verdict_kind j.verdict)) Error (judged_line j)
    (Some (verdict_package j.verdict)) spot

-- the same, if it is a finding
abbrev pub judged_reported_if : SpotData → JudgedData → Option ReportedData
judged_reported_if spot j = if is_judged_finding j then Some (judged_reported spot j) else None

-- the same in the lockfile at a path, by the lines of the packages
abbrev pub reported_license : List ℕ → LinesData → JudgedData → Option ReportedData
reported_license path lines j =
    judged_reported_if (record { path = path; line = judged_line_in lines j }) j

-- all findings, each once and in their order
abbrev pub reported_licenses : List ℕ → LinesData → List JudgedData → List ReportedData
reported_licenses path lines = filter_map (reported_license path lines)
