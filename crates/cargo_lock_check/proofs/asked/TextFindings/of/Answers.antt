use Rattle.std.proofs.Common.{◌≡◌, ◌∙◌, true, ap, sym}
use Rattle.cargo_lock_encoding.specs.Lockfiles.{LockfileData}
use Rattle.cargo_lock_check.specs.Findings.{has_own_checksums}
use Rattle.cargo_lock_check.proofs.OwnChecksums.{as-read}
use Rattle.cargo_lock_check.proofs.asked.TextFindings.of.Goals as goal

pub of_checked-requires : goal.of_checked-requires
of_checked-requires c =
    let own : has_own_checksums c.args.lockfile.now.version ≡ true =
    ap (λ (l : LockfileData). has_own_checksums l.version) (sym c.lockfile.view_is)
    ∙ sym c.has_own_checksums.ensures ∙ c.if-has_own_checksums.true in
    as-read c.args.lockfile.now own
