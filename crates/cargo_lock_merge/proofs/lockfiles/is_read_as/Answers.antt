use Rattle.std.proofs.Common.{subst}
use Rattle.std.specs.Bool.{Decides}
use Rattle.cargo_lock_encoding.specs.Lockfiles.{LockfileData}
use Rattle.cargo_lock_merge.specs.MergedLockfiles.{IsSameLockfile}
use Rattle.cargo_lock_merge.proofs.LockfileMerging.{same-decides}
use Rattle.cargo_lock_merge.proofs.lockfiles.is_read_as.Goals as goal

pub returns-clause-ok : goal.returns-clause-ok
returns-clause-ok c =
    subst (λ (x : LockfileData). Decides c.are_same.result (IsSameLockfile x c.args.lockfile.now)) c.in_ok-read.ensures.ok
    (same-decides c.in_ok-read.read c.args.lockfile.now c.are_same.result c.are_same.ensures)
