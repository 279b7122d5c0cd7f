use Rattle.cli_input.proofs.Names.{named-refusal}
use Rattle.cli_input.proofs.load.unmarked.Goals as goal

pub returns-in-Ok : goal.returns-in-Ok
returns-in-Ok c = λ text none. rw (c.with_file_first.ensures, c.in_file.ensures) (named-refusal _ text _ _ c.in-Ok.ensures none)
