use Rattle.cargo_lock_graph.proofs.DrawingOfText.{drawing_text-ended}
use Rattle.cargo_lock_graph.proofs.drawing.laws.text_is_ended_lines.Goals as goal

pub returns : goal.returns
returns c = drawing_text-ended
