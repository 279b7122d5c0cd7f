use Rattle.cargo_lock_graph.proofs.DrawingWords.{in_words, from_words}
use Rattle.cargo_lock_graph.proofs.drawing.laws.drawings_are_one_form.Goals as goal

pub returns : goal.returns
returns c far start es = (from_words far start es, in_words far start es)
