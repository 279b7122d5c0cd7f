use Rattle.std.proofs.Common.{◌≡◌, List, Option, subst}
use Rattle.std.specs.Option.{option_copied}
use Rattle.std.specs.declared.process.TheConstants.ExitCode.{FAILURE, SUCCESS}
use Rattle.std.proofs.lemmas.Result.{IfOk-weaker}
use Rattle.clap.specs.Matches.{found_of}
use Rattle.cargo_lock_parts.specs.Identity.{PackageData}
use Rattle.cargo_lock_audit.specs.Settings.{settings_of}
use Rattle.cli_input.specs.Told.{subject_of}
use Rattle.cli_folder_commands.specs.Audit.{PrintsAuditOf}
use Rattle.cli_folder_commands.proofs.audit.print_audit.Goals as goal

pub returns : goal.returns
returns g c =
    let found = found_of c.args.options.now in
    let settings = settings_of c.args.settings.now in
    let subject = subject_of c.args.subject in
    let old = g.W.Write.contents c.args.out.now in
    let new = g.W.Write.contents c.print_audited.new.out in
    let audited = c.audited_since-audited in
    IfOk-weaker c.print_audited.result _ _ (λ status said. (
      c.in_ok-older.older,
      c.in_ok-older.ensures,
      subst
          (λ (older : Option (List PackageData)). PrintsAuditOf found settings subject
          (record { packages = subject.packages; older = older }) old new (status ≡ FAILURE) (status ≡ SUCCESS))
          audited.ensures.older
          (subst
          (λ (packages : List PackageData). PrintsAuditOf found settings subject
          (record { packages = packages; older = option_copied audited.result.older }) old new (status ≡ FAILURE) (status ≡ SUCCESS))
          audited.ensures.packages said),
    )) c.print_audited.ensures
