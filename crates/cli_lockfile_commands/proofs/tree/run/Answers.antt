use Rattle.cli_support.proofs.Writes.{on_ok_weaken}
use Rattle.cli_lockfile_commands.proofs.tree.run.Goals as goal

pub returns : goal.returns
returns g c =
    on_ok_weaken c.draw.result _ _ (λ drawn. (c.in_ok-lockfile.lockfile, drawn.0, c.in_ok-lockfile.ensures.ok, drawn.1, drawn.2)) c.draw.ensures
