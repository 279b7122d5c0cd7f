use Rattle.std.proofs.Common.{inl}
use Rattle.std.proofs.lemmas.Result.{IfOk-weaker}
use Rattle.cli.proofs.checked.checked_text.Goals as goal

pub returns-in-Ok-Some : goal.returns-in-Ok-Some
returns-in-Ok-Some c =
    let read = rw c.in-Ok-Some.field-0-is at c.in-Ok-Some.ensures.ok in
    IfOk-weaker c.checked_lockfile.result _ _
    (λ checked found. (found.0, inl (c.in-Ok-Some.lockfile, read, found.1), found.2)) c.checked_lockfile.ensures
