use Rattle.cargo_lock_lines.proofs.PrintedWords.{words-are-read}
use Rattle.cargo_lock_lines.proofs.laws.words_are_read.Goals as goal

pub returns : goal.returns
returns c = words-are-read
