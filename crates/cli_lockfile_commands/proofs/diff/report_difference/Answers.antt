use Rattle.std.proofs.Common.{◌≡◌, ◌∙◌, ap, sym}
use Rattle.cargo_lock_encoding.specs.Lockfiles.{LockfileData}
use Rattle.cli_support.proofs.Writes.{if_ok_weaken}
use Rattle.cli_lockfile_commands.proofs.diff.report_difference.Goals as goal

pub returns : goal.returns
returns g c =
    let l : LockfileData = c.args.new.now.lockfile in
    let packages : c.as_slice.result.now ≡ l.packages = c.as_slice.ensures.value ∙ ap (λ (x : LockfileData). x.packages) c.lockfile.view_is in
    if_ok_weaken c.report_changes.result _ _
    (λ status printed. rw (sym c.file-after.ensures, sym c.as_str.ensures.value, sym packages) printed) c.report_changes.ensures
