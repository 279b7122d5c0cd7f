-- What the text is after the tree of a node is drawn.
use Rattle.std.specs.Prelude.{ℕ, Bool, List}
use Rattle.cargo_lock_graph.specs.declared.drawing.entry.Entry.{Entry}
use Rattle.cargo_lock_graph.specs.declared.graph.EdgeDirection.{EdgeDirection}
use Rattle.cargo_lock_graph.specs.Drawing.{IsDrawing}
use Rattle.cargo_lock_graph.specs.DrawingText.{drawing_text, standard_symbols}
use Rattle.cargo_lock_graph.specs.Edges.{GraphData, far_ends}
use Rattle.cargo_lock_graph.specs.Labels.{label_at}

-- There is a drawing of the tree of this node, along the edges in this direction, and `P` holds for
-- its text, with exact labels or plain ones.
abbrev pub Draws : Bool → EdgeDirection → GraphData → ℕ → (List ℕ → Type 0) → Type 0
Draws exact direction graph start P = (entries : List Entry)
    × IsDrawing (far_ends direction graph.edges) start entries
    × P (drawing_text standard_symbols (label_at exact graph.packages) entries)
