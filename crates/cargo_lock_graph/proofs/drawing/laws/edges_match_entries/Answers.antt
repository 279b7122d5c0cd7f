use Rattle.cargo_lock_graph.proofs.EdgeMatch.{edges_match}
use Rattle.cargo_lock_graph.proofs.drawing.laws.edges_match_entries.Goals as goal

pub returns : goal.returns
returns c = edges_match
