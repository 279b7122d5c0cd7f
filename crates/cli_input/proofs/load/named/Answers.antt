use Rattle.cli_input.proofs.Names.{named-of-lockfile}
use Rattle.cli_input.proofs.load.named.Goals as goal

pub returns-in-Ok : goal.returns-in-Ok
returns-in-Ok c = λ of. rw c.in_file.ensures (named-of-lockfile _ _ _ c.in-Ok.ensures of)
