-- What is found of packages by advisories, as findings of reports.
use Rattle.std.specs.Prelude.{ℕ, List, Some, map}
use Rattle.cargo_lock_audit.specs.Advisory.{AdvisoryData}
use Rattle.cargo_lock_audit.specs.Document.{advisory_finding_line_in}
use Rattle.cargo_lock_audit.specs.Findings.{AdvisoryFindingData}
use Rattle.cargo_lock_audit.specs.Lines.{advisory_finding_line}
use Rattle.cargo_lock_location.specs.Lines.{LinesData}
use Rattle.cargo_lock_report.specs.Reported.{ReportedData, RuleData, SpotData, level_of, reported_of}
use Rattle.cargo_lock_report.specs.Reported.{rule_of_advisory}

-- an advisory as a rule
abbrev pub advisory_rule : AdvisoryData → RuleData
advisory_rule a = rule_of_advisory a.id a.title a.details.url

-- a finding at a spot, which counts if it is denied
unfoldable pub advisory_finding_reported : SpotData → AdvisoryFindingData → ReportedData
advisory_finding_reported spot f = reported_of (advisory_rule f.advisory) (level_of f.is_denied)
    (advisory_finding_line f) (Some f.content) spot

-- a finding in the lockfile at a path, by the lines of the packages
abbrev pub reported_advisory : List ℕ → LinesData → AdvisoryFindingData → ReportedData
reported_advisory path lines f = advisory_finding_reported
    (record { path = path; line = advisory_finding_line_in lines f }) f

-- all findings, each once and in their order
abbrev pub reported_advisories : List ℕ → LinesData → List AdvisoryFindingData → List ReportedData
reported_advisories path lines = map (reported_advisory path lines)
