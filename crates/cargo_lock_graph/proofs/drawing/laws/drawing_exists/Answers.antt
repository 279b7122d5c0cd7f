use Rattle.cargo_lock_graph.specs.DrawingMade.{drawing}
use Rattle.cargo_lock_graph.proofs.DrawingMade.{is_drawing}
use Rattle.cargo_lock_graph.proofs.DrawingWords.{in_words}
use Rattle.cargo_lock_graph.proofs.drawing.laws.drawing_exists.Goals as goal

pub returns : goal.returns
returns c far nodes start below in' =
    (drawing far nodes start, in_words far start (drawing far nodes start) (is_drawing far nodes start below in'))
