use Rattle.cli_support.proofs.Writes.{if_ok_weaken}
use Rattle.cli_lockfile_commands.proofs.diff.run.Goals as goal

pub returns : goal.returns
returns g c =
    if_ok_weaken c.compare.result _ _ (λ status told.
    let (before, meant, from) = told in
    let (after, text, means, said) = from in
    (before, after, text, c.deref.result.now, meant, means, rw c.deref.ensures.value c.in_ok-accepted.ensures, said)) c.compare.ensures
