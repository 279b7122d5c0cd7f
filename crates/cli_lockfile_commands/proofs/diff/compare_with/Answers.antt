use Rattle.std.proofs.Common.{string_bytes}
use Rattle.cli_support.proofs.Writes.{if_ok_weaken}
use Rattle.cli_lockfile_commands.proofs.diff.compare_with.Goals as goal

pub returns : goal.returns
returns g c =
    if_ok_weaken c.report.result _ _ (λ status told. (
      c.in_ok-new.new.lockfile,
      string_bytes c.in_ok-new.new.text,
      c.in_ok-new.ensures.ok,
      told,
    )) c.report.ensures
