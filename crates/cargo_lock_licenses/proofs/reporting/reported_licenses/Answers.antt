use Rattle.std.proofs.Common.{◌∙◌, ap, map}
use Rattle.std.specs.List.{filter_map}
use Rattle.std.proofs.lemmas.Result.{IfOk-weaker}
use Rattle.cargo_lock_report.proofs.Filtered.{some-kept}
use Rattle.cargo_lock_licenses.specs.Judged.{judged_of}
use Rattle.cargo_lock_licenses.specs.Reporting.{reported_license}
use Rattle.cargo_lock_licenses.proofs.reporting.reported_licenses.Goals as goal

pub returns : goal.returns
returns c = IfOk-weaker c.reports.result _ _ (λ reported is. is
    ∙ some-kept judged_of (reported_license c.args.path.now c.args.lines.now) c.deref.result.now
    ∙ ap (λ xs. filter_map (reported_license c.args.path.now c.args.lines.now) (map judged_of xs)) c.deref.ensures.value) c.reports.ensures
