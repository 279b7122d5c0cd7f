-- The drawing from a node of a graph, and its text.
use Rattle.std.proofs.Common.{◌≡◌, ℕ, ◌<◌, List, length, subst, sym}
use Rattle.cargo_lock_graph.specs.declared.graph.EdgeDirection.{EdgeDirection}
use Rattle.cargo_lock_graph.specs.declared.drawing.entry.Entry.{Entry}
use Rattle.cargo_lock_graph.specs.Chains.{AreBetween}
use Rattle.cargo_lock_graph.specs.Drawing.{IsDrawing}
use Rattle.cargo_lock_graph.specs.DrawingByLater.{drawn_by_later}
use Rattle.cargo_lock_graph.specs.DrawingMade.{drawing}
use Rattle.cargo_lock_graph.specs.DrawingSteps.{DrawsFrom}
use Rattle.cargo_lock_graph.specs.DrawingText.{SymbolTexts, drawing_text}
use Rattle.cargo_lock_graph.specs.Edges.{GraphData, far_ends}
use Rattle.cargo_lock_graph.proofs.DrawingMade.{is_drawing}
use Rattle.cargo_lock_graph.proofs.DrawingWords.{in_words, from_words}
use Rattle.cargo_lock_graph.proofs.PrefixLemmas.{drawn_same}
use Rattle.cargo_lock_graph.proofs.WalkSteps.{below_far}

pub drawing_of : (d : EdgeDirection) (graph : GraphData) (start : ℕ) (es : List Entry) → AreBetween (length graph.packages) graph.edges → start < length graph.packages → es ≡ drawing (far_ends d graph.edges) (length graph.packages) start → IsDrawing (far_ends d graph.edges) start es
drawing_of d graph start es between lt is =
    let far : ℕ → List ℕ = far_ends d graph.edges in
    in_words far start es (subst (DrawsFrom far start) (sym is) (is_drawing far (length graph.packages) start (below_far d graph.edges (length graph.packages) between) lt))

pub text_of_drawing : (far : ℕ → List ℕ) (start : ℕ) (es : List Entry) (s : SymbolTexts) (label : ℕ → List ℕ) → IsDrawing far start es → drawing_text s label es ≡ drawn_by_later s label es
text_of_drawing far start es s label d = drawn_same far start es s label (from_words far start es d)
