use Rattle.std.proofs.Common.{map, option_map, refl}
use Rattle.std.proofs.lemmas.Result.{IfOk-weaker}
use Rattle.cargo_lock_audit.specs.Findings.{advisory_finding_of}
use Rattle.cli_folder_commands.specs.Reasoned.{ReasonedData}
use Rattle.cli_folder_commands.proofs.reasoned.finding_lines.Goals as goal

pub returns : goal.returns
returns c =
    let r : ReasonedData = record {
      finding = advisory_finding_of c.args.finding.now;
      needers = option_map (λ v. map (λ p. p.now) v.items) c.in_ok-needers.needers;
    } in
    IfOk-weaker c.lines_with.result _ _ (λ lines is. (r, refl, c.in_ok-needers.ensures, is)) c.lines_with.ensures
