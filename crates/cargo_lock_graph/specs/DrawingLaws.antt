-- Laws of drawings, over every graph.
use Rattle.std.specs.Prelude.{◌≡◌, ℕ, suc, ◌<◌, ◌↔◌, Bool, false, All, List, [], Some, Ok}
use Rattle.std.specs.Prelude.{length, slice_get}
use Rattle.std.specs.List.{filter}
use Rattle.semver.specs.Identifiers.{parts_text}
use Rattle.semver.specs.Parse.{Parts, version_parts}
use Rattle.cargo_lock_parts.specs.Ascii.{newline}
use Rattle.cargo_lock_parts.specs.Identity.{PackageData}
use Rattle.cargo_lock_graph.specs.declared.graph.EdgeDirection.{EdgeDirection}
use Rattle.cargo_lock_graph.specs.declared.drawing.entry.Entry.{Entry}
use Rattle.cargo_lock_graph.specs.Edges.{GraphData, far_ends, near_end, Edge}
use Rattle.cargo_lock_graph.specs.Drawing.{IsDrawing, IsFirst, Occurs, AreBelow, children, is_one_of}
use Rattle.cargo_lock_graph.specs.Drawing.{nodes_of}
use Rattle.cargo_lock_graph.specs.DrawingSteps.{DrawsFrom}
use Rattle.cargo_lock_graph.specs.DrawingPlaces.{EdgesMatchEntries}
use Rattle.cargo_lock_graph.specs.Paths.{IsReachable}
use Rattle.cargo_lock_graph.specs.DrawingText.{SymbolTexts, standard_symbols, drawing_text}
use Rattle.cargo_lock_graph.specs.DrawingByLater.{drawn_by_later}
use Rattle.cargo_lock_graph.specs.DrawingLines.{LabelsAreDistinct, AreLines, HasNoNewline, TellAll, cut}
use Rattle.cargo_lock_graph.specs.DrawingLines.{ended_lines}
use Rattle.cargo_lock_graph.specs.Labels.{label_at}

-- the definition of a drawing by place is the same as the one by recursion
abbrev pub DrawingsAreOneForm : Type 0
DrawingsAreOneForm = (far : ℕ → List ℕ) (start : ℕ) (es : List Entry)
    → (IsDrawing far start es ↔ DrawsFrom far start es)

-- there is a drawing from each node
abbrev pub DrawingExists : Type 0
DrawingExists = (far : ℕ → List ℕ) (nodes start : ℕ) → AreBelow far nodes → start < nodes
    → (es : List Entry) × IsDrawing far start es

-- there is no second one
abbrev pub DrawingIsUnique : Type 0
DrawingIsUnique = (far : ℕ → List ℕ) (start : ℕ) (es fs : List Entry) → IsDrawing far start es
    → IsDrawing far start fs → es ≡ fs

-- From each start there is exactly one drawing of a graph in each direction.
abbrev pub GraphHasOneDrawing : Type 0
GraphHasOneDrawing = (d : EdgeDirection) (graph : GraphData) (start : ℕ)
    → (es : List Entry) × IsDrawing (far_ends d graph.edges) start es
    × ((fs : List Entry) → IsDrawing (far_ends d graph.edges) start fs → fs ≡ es)

-- A drawing has one entry more than there are edges that leave a node that occurs.
abbrev pub EntriesAreCounted : Type 0
EntriesAreCounted = (d : EdgeDirection) (edges : List Edge) (start : ℕ) (es : List Entry)
    → IsDrawing (far_ends d edges) start es
    → length es ≡ suc (length (filter (λ e. is_one_of (near_end d e) (nodes_of es)) edges))

-- a node occurs exactly if it is reachable
abbrev pub OccursWhereReachable : Type 0
OccursWhereReachable = (far : ℕ → List ℕ) (start n : ℕ) (es : List Entry) → IsDrawing far start es
    → (Occurs n es ↔ IsReachable far start n)

-- a reachable node has a first entry, whose children are the far ends of its edges
abbrev pub ReachableIsExpanded : Type 0
ReachableIsExpanded = (far : ℕ → List ℕ) (start n : ℕ) (es : List Entry) → IsDrawing far start es
    → IsReachable far start n
    → (front : List Entry) × (e : Entry) × (later : List Entry) × IsFirst n es front e later
    × (children e.depth later ≡ far n)

-- a node has at most one first entry
abbrev pub FirstIsUnique : Type 0
FirstIsUnique = (n : ℕ) (es f g : List Entry) (a b : Entry) (k l : List Entry) → IsFirst n es f a k
    → IsFirst n es g b l → f ≡ g

-- the edges of reachable nodes and the entries after the first match one to one
abbrev pub EdgesMatch : Type 0
EdgesMatch = (far : ℕ → List ℕ) (start : ℕ) (es : List Entry) → IsDrawing far start es
    → EdgesMatchEntries far start es

-- the text as it is defined is the text that is computed from later entries
abbrev pub TextByLater : Type 0
TextByLater = (far : ℕ → List ℕ) (start : ℕ) (es : List Entry) (s : SymbolTexts)
    (label : ℕ → List ℕ) → IsDrawing far start es
    → drawing_text s label es ≡ drawn_by_later s label es

-- If no label has a newline, the text has one line for each entry: the first is the label of the
-- first entry, and each later one reads as its entry's depth and label.
abbrev pub TextTellsDrawing : Type 0
TextTellsDrawing = (far : ℕ → List ℕ) (start : ℕ) (label : ℕ → List ℕ) (es : List Entry)
    → IsDrawing far start es → AreLines label es
    → TellAll label es (cut [] (drawing_text standard_symbols label es))

-- If no label has a newline and different nodes have different labels, drawings with the same text
-- are the same.
abbrev pub TextIsOfOneDrawing : Type 0
TextIsOfOneDrawing = (far gar : ℕ → List ℕ) (start other : ℕ) (label : ℕ → List ℕ)
    (es fs : List Entry)
    → IsDrawing far start es → IsDrawing gar other fs → AreLines label es → AreLines label fs
    → LabelsAreDistinct label es fs
    → drawing_text standard_symbols label es ≡ drawing_text standard_symbols label fs → es ≡ fs

-- The text is its lines, each ended by a newline, and nothing is after the last one.
abbrev pub TextIsEndedLines : Type 0
TextIsEndedLines = (s : SymbolTexts) (label : ℕ → List ℕ) (es : List Entry)
    → drawing_text s label es ≡ ended_lines (cut [] (drawing_text s label es))

-- If the packages of the entries have no newline in name, version and exact text, no label has one.
abbrev pub EntriesAreLines : Type 0
EntriesAreLines = (exact : Bool) (packages : List PackageData) (es : List Entry)
    → All (λ e. (p : PackageData) → slice_get packages e.node ≡ Some p → HasNoNewline p) es
    → AreLines (label_at exact packages) es

-- the text of a version that was parsed has no newline
abbrev pub ParsedVersionsAreLines : Type 0
ParsedVersionsAreLines = (text : List ℕ) (v : Parts) → version_parts text ≡ Ok v
    → is_one_of newline (parts_text v) ≡ false
