use Rattle.cargo_lock_graph.proofs.DrawingReach.{occurs_reachable, reachable_occurs}
use Rattle.cargo_lock_graph.proofs.DrawingWords.{from_words}
use Rattle.cargo_lock_graph.proofs.drawing.laws.node_occurs_where_reachable.Goals as goal

pub returns : goal.returns
returns c far start n es d =
    let steps = from_words far start es d in
    (occurs_reachable far start es n steps, reachable_occurs far start es n steps)
