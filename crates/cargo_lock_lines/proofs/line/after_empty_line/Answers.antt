use Rattle.cargo_lock_lines.proofs.HeldWords.{Holds-blank}
use Rattle.cargo_lock_lines.proofs.line.after_empty_line.Goals as goal

pub returns-in-Some : goal.returns-in-Some
returns-in-Some c = Holds-blank c.args.text.now c.in-Some.rest.now c.in-Some.ensures
