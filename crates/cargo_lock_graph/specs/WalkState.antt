-- What a walk over a graph has still to draw, and what it holds.
use Rattle.std.specs.Prelude.{◌≡◌, ℕ, suc, ◌+◌, ◌≤◌, ◌<◌, Bool, List, [], ◌∷◌, ◌++◌, length, IfSome}
use Rattle.std.specs.Prelude.{All, Option, is_some, vec_capacity, vec_len, ◌-◌, ◌*◌, take}
use Rattle.std.specs.Prelude.{true, cond, get_or, set}
use Rattle.cargo_lock_graph.specs.declared.graph.EdgeDirection.{EdgeDirection}
use Rattle.cargo_lock_graph.specs.declared.drawing.entry.Entry.{Entry}
use Rattle.cargo_lock_graph.specs.declared.drawing.walk.Walk.{Walk}
use Rattle.cargo_lock_graph.specs.DrawingMade.{entries_below, unmarked_count, rest_of}
use Rattle.cargo_lock_graph.specs.DrawingByLater.{levels_text}
use Rattle.cargo_lock_graph.specs.DrawingText.{level_text, standard_symbols}
use Rattle.cargo_lock_graph.specs.Edges.{Edge, GraphData, far_ends, far_ends_from}

-- The entries that wait in the frames, if the first of the frames is at this depth: a frame is the
-- place of the next edge to draw, and represents that edge and the older ones at its node.
abbrev pub entries_waiting : EdgeDirection → List Edge → ℕ → List (Option ℕ) → List Entry
entries_waiting direction edges depth [] = []
entries_waiting direction edges depth (f ∷ fs) =
    entries_waiting direction edges (suc depth) fs
    ++ entries_below (suc depth) (far_ends_from direction edges f)

-- what is still to be drawn, if these nodes have marks
unfoldable pub entries_to_come : EdgeDirection → List Edge → List Bool → List (Option ℕ)
    → List Entry
entries_to_come direction edges marks frames = rest_of (far_ends direction edges) marks
    (entries_waiting direction edges 0 frames)

-- what a walk has still to draw
abbrev pub to_come : GraphData → Walk → List Entry
to_come graph walk = entries_to_come walk.direction graph.edges walk.visited.items walk.stack.items

-- There are marks for `nodes` nodes, and each frame refers to one of `edges` edges. Frames and
-- nodes without a mark are together at most `nodes`, and so many frames fit into the capacity: the
-- walk takes no memory for a frame.
pub record IsHeld (nodes edges : ℕ) (marks : List Bool) (frames : List (Option ℕ))
    (capacity : ℕ) : Type 0 where
  pub long : length marks ≡ nodes
  pub known : All (λ f. IfSome f (λ edge. edge < edges)) frames
  pub room : length frames + unmarked_count marks ≤ nodes
  pub reserved : nodes ≤ capacity

-- An entry of this node and depth was drawn: its node has a mark now, and there is a frame for each
-- level above it, and one of its own if the node had no mark.
pub record HasDrawn (old new : List Bool) (node depth frames : ℕ) : Type 0 where
  pub marks : new ≡ cond (get_or old node true) old (set old node true)
  pub frames_are : frames ≡ depth + cond (get_or old node true) 0 1

-- the walk goes over this graph
abbrev pub IsOn : GraphData → Walk → Type 0
IsOn graph walk =
    IsHeld (length graph.packages) (length graph.edges) walk.visited.items walk.stack.items
    (vec_capacity walk.stack)

-- the levels of these frames, each as more follows on it or not
abbrev pub frames_text : List (Option ℕ) → List ℕ
frames_text [] = []
frames_text (f ∷ fs) = level_text standard_symbols (is_some f) ++ frames_text fs

-- The text is that of the levels of the frames. The levels of `nodes` frames, each of at most 6
-- bytes, fit into the capacity: the walk takes no memory for a level.
pub record HasLevels (nodes : ℕ) (frames : List (Option ℕ)) (text : List ℕ)
    (capacity : ℕ) : Type 0 where
  pub text_is : text ≡ frames_text frames
  pub reserved : 6 * nodes ≤ capacity

-- the walk keeps the levels of its frames
abbrev pub KeepsLevels : GraphData → Walk → Type 0
KeepsLevels graph walk =
    HasLevels (length graph.packages) walk.stack.items walk.levels.items (vec_capacity walk.levels)

-- the text of the walk's levels starts with those above an entry of this depth, the last one drawn
pub record IsAbove (graph : GraphData) (walk : Walk) (depth : ℕ) : Type 0 where
  pub within : walk.above ≤ vec_len walk.levels
  pub text_is : take walk.above walk.levels.items
      ≡ levels_text standard_symbols (depth - 1) (to_come graph walk)
