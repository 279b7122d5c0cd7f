-- What an audit reports.
use Rattle.std.specs.Prelude.{ℕ, List, map}
use Rattle.cargo_lock_audit.specs.declared.report.Report.{Report}
use Rattle.cargo_lock_audit.specs.Advisory.{AdvisoryData}
use Rattle.cargo_lock_audit.specs.Audited.{AuditedData}
use Rattle.cargo_lock_audit.specs.Coverage.{CoverageData, coverage_data_of, coverage_of}
use Rattle.cargo_lock_audit.specs.Findings.{AdvisoryFindingData, advisory_finding_of}
use Rattle.cargo_lock_audit.specs.Findings.{advisory_findings, id_of, unmet}
use Rattle.cargo_lock_audit.specs.Pairs.{pairs}
use Rattle.cargo_lock_audit.specs.Settings.{SettingsData}

-- what is found, the texts that were ignored in vain, and which packages were compared
pub record ReportData : Type 0 where
  pub findings : List AdvisoryFindingData
  pub unmet : List (List ℕ)
  pub coverage : CoverageData

-- the data of a report of the program
abbrev pub report_data_of : Report → ReportData
report_data_of r = record {
  findings = map advisory_finding_of r.findings.items;
  unmet = map id_of r.unmet.items;
  coverage = coverage_data_of r.coverage;
}

-- what is reported by settings of what is audited, by the advisories about it, of a database that has
-- so many
abbrev pub report_of : SettingsData → AuditedData → List AdvisoryData → ℕ → ReportData
report_of settings audited advisories size = record {
  findings = advisory_findings settings audited advisories;
  unmet = unmet (pairs settings.registries audited.packages advisories) settings.ignored;
  coverage = coverage_of settings.registries audited.packages size;
}
