use Rattle.std.proofs.Common.{inr}
use Rattle.cli.proofs.merge.no_base.Goals as goal

pub returns : goal.returns
returns c = inr (c.in_ok-lockfile.lockfile, c.in_ok-lockfile.ensures, c.in_ok-input.ensures.ok)
