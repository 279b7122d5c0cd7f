use Rattle.cli_support.proofs.TerminalTexts.{nothing-hidden}
use Rattle.cli_support.proofs.laws.nothing_is_hidden.Goals as goal

pub returns : goal.returns
returns c = nothing-hidden
