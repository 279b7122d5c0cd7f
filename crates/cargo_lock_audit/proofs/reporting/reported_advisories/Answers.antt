use Rattle.std.proofs.Common.{◌∙◌, ap, map}
use Rattle.std.proofs.lemmas.Result.{IfOk-weaker}
use Rattle.cargo_lock_report.proofs.Filtered.{each-kept}
use Rattle.cargo_lock_audit.specs.Findings.{advisory_finding_of}
use Rattle.cargo_lock_audit.specs.Reporting.{reported_advisory}
use Rattle.cargo_lock_audit.proofs.reporting.reported_advisories.Goals as goal

pub returns : goal.returns
returns c = IfOk-weaker c.reports.result _ _ (λ reported is. is
    ∙ each-kept advisory_finding_of (reported_advisory c.args.path.now c.args.lines.now) c.deref.result.now
    ∙ ap (λ xs. map (reported_advisory c.args.path.now c.args.lines.now) (map advisory_finding_of xs)) c.deref.ensures.value) c.reports.ensures
