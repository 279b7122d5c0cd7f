use Rattle.std.proofs.Common.{◌≡◌, ◌∙◌, List, ap, subst, sym}
use Rattle.cargo_lock_diff.specs.Difference.{IsDifferenceBut}
use Rattle.cargo_lock_encoding.specs.Lockfiles.{LockfileData}
use Rattle.cargo_lock_parts.specs.Identity.{PackageData}
use Rattle.cli_support.proofs.Writes.{if_ok_weaken}
use Rattle.cli_lockfile_commands.proofs.diff.report.Goals as goal

pub returns : goal.returns
returns g c =
    let d = c.in_ok-difference.difference in
    let l : LockfileData = c.args.new.now.lockfile in
    let accepted = c.args.accepted.now in
    let new : c.as_slice-packages.result.now ≡ l.packages = c.as_slice-packages.ensures.value ∙ ap (λ (x : LockfileData). x.packages) c.lockfile.view_is in
    let old : c.deref.result.now ≡ c.args.old.now.packages = c.deref.ensures.value ∙ ap (λ (x : LockfileData). x.packages) c.old.view_is in
    let first = subst (λ (ps : List PackageData). IsDifferenceBut accepted ps c.as_slice-packages.result.now d) old c.in_ok-difference.ensures in
    let both = subst (λ (ps : List PackageData). IsDifferenceBut accepted c.args.old.now.packages ps d) new first in
    if_ok_weaken c.report_difference.result _ _ (λ status printed. (d, both, rw (sym c.file-before.ensures) printed))
    c.report_difference.ensures
