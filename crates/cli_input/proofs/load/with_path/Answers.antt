use Rattle.cli_input.proofs.Names.{unread-named}
use Rattle.cli_input.proofs.load.with_path.Goals as goal

pub returns-in_default : goal.returns-in_default
returns-in_default c = λ argument name of shown. rw (c.with_file_first.ensures, c.in_file.ensures) (unread-named argument name c.args.path c.args.fault c.in_default.not-TooLarge shown of)
