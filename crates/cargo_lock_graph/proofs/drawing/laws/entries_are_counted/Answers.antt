use Rattle.cargo_lock_graph.specs.Edges.{far_ends}
use Rattle.cargo_lock_graph.proofs.DrawingCount.{entries_counted}
use Rattle.cargo_lock_graph.proofs.DrawingWords.{from_words}
use Rattle.cargo_lock_graph.proofs.drawing.laws.entries_are_counted.Goals as goal

pub returns : goal.returns
returns c d edges start es drawn = entries_counted d edges start es (from_words (far_ends d edges) start es drawn)
