use Rattle.std.proofs.Common.{string_bytes}
use Rattle.cli_input.proofs.load.named_lockfile.Goals as goal

pub returns-clause-meant : goal.returns-clause-meant
returns-clause-meant g c = (string_bytes c.in_ok-read.read.text, c.in_ok-read.ensures.ok.means)

pub returns-clause-allowed : goal.returns-clause-allowed
returns-clause-allowed g c = c.in_ok-read.ensures.ok.allowed
