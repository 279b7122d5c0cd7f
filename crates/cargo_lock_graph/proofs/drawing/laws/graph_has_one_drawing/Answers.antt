use Rattle.std.proofs.Common.{ℕ, suc, List, max, arith}
use Rattle.cargo_lock_graph.specs.declared.drawing.entry.Entry.{Entry}
use Rattle.cargo_lock_graph.specs.Drawing.{AreBelow}
use Rattle.cargo_lock_graph.specs.DrawingMade.{drawing}
use Rattle.cargo_lock_graph.specs.Edges.{far_ends}
use Rattle.cargo_lock_graph.proofs.DrawingMade.{is_drawing, one_drawing_only}
use Rattle.cargo_lock_graph.proofs.DrawingWords.{from_words, in_words}
use Rattle.cargo_lock_graph.proofs.GraphEnds.{above, between-above}
use Rattle.cargo_lock_graph.proofs.WalkSteps.{below_far}
use Rattle.cargo_lock_graph.proofs.drawing.laws.graph_has_one_drawing.Goals as goal

pub returns : goal.returns
returns c d graph start =
    let far : ℕ → List ℕ = far_ends d graph.edges in
    let count : ℕ = max (suc start) (above graph.edges) in
    let below : AreBelow far count = below_far d graph.edges count (between-above graph.edges count (omega arith)) in
    let es : List Entry = drawing far count start in
    let is = in_words far start es (is_drawing far count start below (omega arith)) in
    (es, is, λ fs other. one_drawing_only far start fs es (from_words far start fs other) (from_words far start es is))
