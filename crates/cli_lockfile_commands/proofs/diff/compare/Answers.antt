use Rattle.cli_support.proofs.Writes.{if_ok_weaken}
use Rattle.cli_lockfile_commands.proofs.diff.compare.Goals as goal

pub returns : goal.returns
returns g c =
    if_ok_weaken c.compare_with.result _ _ (λ status told. (c.in_ok-old.old, c.in_ok-old.ensures.ok, told))
    c.compare_with.ensures
