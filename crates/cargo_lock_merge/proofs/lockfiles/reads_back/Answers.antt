use Rattle.std.proofs.lemmas.Result.{IfOk-weaker}
use Rattle.std.proofs.Common.{true≢false, sym}
use Rattle.cargo_lock_merge.proofs.LockfileMerging.{read-decides, unread}
use Rattle.cargo_lock_merge.proofs.lockfiles.reads_back.Goals as goal

pub returns-in-Ok-clause-ok : goal.returns-in-Ok-clause-ok
returns-in-Ok-clause-ok c =
    IfOk-weaker c.is_read_as.result _ _ (λ back d. read-decides c.args.lockfile.now c.in-Ok.read c.args.text.now back c.in-Ok.ensures.read d) c.is_read_as.ensures.ok

pub returns-then-is_unread-clause-ok : goal.returns-then-is_unread-clause-ok
returns-then-is_unread-clause-ok c = (
  λ h. absurd (true≢false (sym h)),
  λ t. absurd (unread c.args.lockfile.now c.args.text.now c.in-Err.fault c.in-Err.ensures.read (c.is_unread.ensures.0 c.if-is_unread.true) t),
)
