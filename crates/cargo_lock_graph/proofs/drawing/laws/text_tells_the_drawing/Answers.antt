use Rattle.cargo_lock_graph.proofs.DrawingLines.{told_of}
use Rattle.cargo_lock_graph.proofs.drawing.laws.text_tells_the_drawing.Goals as goal

pub returns : goal.returns
returns c = told_of
