use Rattle.std.proofs.lemmas.List.Elements.{recursion_from_All}
use Rattle.cargo_lock_graph.proofs.DrawingOfText.{plain-lines}
use Rattle.cargo_lock_graph.proofs.drawing.laws.entries_are_lines.Goals as goal

pub returns : goal.returns
returns c exact packages es plain = plain-lines exact packages es (recursion_from_All _ es plain)
