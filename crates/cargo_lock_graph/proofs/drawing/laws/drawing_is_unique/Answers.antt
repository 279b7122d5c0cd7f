use Rattle.cargo_lock_graph.proofs.DrawingMade.{one_drawing_only}
use Rattle.cargo_lock_graph.proofs.DrawingWords.{from_words}
use Rattle.cargo_lock_graph.proofs.drawing.laws.drawing_is_unique.Goals as goal

pub returns : goal.returns
returns c far start es fs d q = one_drawing_only far start es fs (from_words far start es d) (from_words far start fs q)
