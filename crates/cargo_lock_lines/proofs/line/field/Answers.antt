use Rattle.cargo_lock_lines.proofs.HeldWords.{Holds-field}
use Rattle.cargo_lock_lines.proofs.line.field.Goals as goal

pub returns : goal.returns
returns c = λ key bare starts. Holds-field key c.args.text.now c.args.beginning.now c.in_ok-word.word.now c.in_ok-word.rest.now bare starts c.in_ok-word.ensures
