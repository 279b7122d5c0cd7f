-- What is wrong with a lockfile, as findings of reports.
use Rattle.std.specs.Prelude.{ℕ, List, map}
use Rattle.cargo_lock_check.specs.Document.{line_of_finding, lockfile_finding_kind}
use Rattle.cargo_lock_check.specs.Document.{lockfile_finding_package}
use Rattle.cargo_lock_check.specs.Finding.{LockfileFindingData, lockfile_finding_line}
use Rattle.cargo_lock_check.specs.Findings.{PlacedFindingData}
use Rattle.cargo_lock_location.specs.Lines.{LinesData}
use Rattle.cargo_lock_report.specs.declared.reported.Level.TheVariants.{Error}
use Rattle.cargo_lock_report.specs.Reported.{ReportedData, SpotData, reported_of, rule_of_kind}

-- a finding at a spot, which counts
unfoldable pub lockfile_finding_reported : SpotData → LockfileFindingData → ReportedData
lockfile_finding_reported spot f = reported_of (rule_of_kind (lockfile_finding_kind f)) Error
    (lockfile_finding_line f) (lockfile_finding_package f) spot

-- a finding in the lockfile at a path, by the lines of the packages
abbrev pub placed_finding_reported : List ℕ → LinesData → PlacedFindingData → ReportedData
placed_finding_reported path lines f =
    lockfile_finding_reported (record { path = path; line = line_of_finding lines f }) f.finding

-- all findings, each once and in their order
abbrev pub reported_findings : List ℕ → LinesData → List PlacedFindingData → List ReportedData
reported_findings path lines = map (placed_finding_reported path lines)
