use Rattle.std.proofs.Common.{◌∙◌}
use Rattle.std.proofs.lemmas.Result.{IfOk-weaker}
use Rattle.cargo_lock_report.proofs.Filtered.{each-kept}
use Rattle.cargo_lock_check.specs.Findings.{placed_finding_of}
use Rattle.cargo_lock_check.specs.Reporting.{placed_finding_reported}
use Rattle.cargo_lock_check.proofs.reporting.reported_findings.Goals as goal

pub returns : goal.returns
returns c = IfOk-weaker c.reports.result _ _ (λ reported is. is
    ∙ each-kept placed_finding_of (placed_finding_reported c.args.path.now c.args.lines.now) c.args.findings.now) c.reports.ensures
