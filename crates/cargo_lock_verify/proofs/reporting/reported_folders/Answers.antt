use Rattle.std.proofs.Common.{◌∙◌, ap, map}
use Rattle.std.proofs.lemmas.Result.{IfOk-weaker}
use Rattle.cargo_lock_report.proofs.Filtered.{each-kept}
use Rattle.cargo_lock_verify.specs.Vendored.{folder_finding_of}
use Rattle.cargo_lock_verify.specs.Reporting.{reported_folder}
use Rattle.cargo_lock_verify.proofs.reporting.reported_folders.Goals as goal

pub returns : goal.returns
returns c = IfOk-weaker c.reports.result _ _ (λ reported is. is
    ∙ each-kept folder_finding_of (reported_folder c.args.path.now c.args.lines.now) c.deref.result.now
    ∙ ap (λ xs. map (reported_folder c.args.path.now c.args.lines.now) (map folder_finding_of xs)) c.deref.ensures.value) c.reports.ensures
