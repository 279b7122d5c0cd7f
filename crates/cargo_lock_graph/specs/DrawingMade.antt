-- The drawing, made from the top down. The walk over a graph is compared with it.
use Rattle.std.specs.Prelude.{◌≡◌, ℕ, zero, suc, ◌+◌, ◌<◌, Bool, true, false, cond, List, [], ◌∷◌}
use Rattle.std.specs.Prelude.{◌++◌, length, get_or, set, replicate}
use Rattle.cargo_lock_graph.specs.declared.drawing.entry.Entry.{Entry}
use Rattle.cargo_lock_graph.specs.Drawing.{is_one_of}

-- entries of these nodes at this depth
abbrev pub entries_below : ℕ → List ℕ → List Entry
entries_below depth [] = []
entries_below depth (n ∷ ns) = record { node = n; depth = depth } ∷ entries_below depth ns

-- how many marks are not set
abbrev pub unmarked_count : List Bool → ℕ
unmarked_count [] = 0
unmarked_count (b ∷ bs) = cond b 0 1 + unmarked_count bs

-- draws the entries to come up to a node without a mark, and continues with `on`
abbrev pub draw_seen : (ℕ → List ℕ) → (List Bool → List Entry → List Entry) → List Bool → List Entry
    → List Entry
draw_seen far on marks [] = []
draw_seen far on marks (e ∷ p) =
    e ∷ cond (get_or marks e.node true) (draw_seen far on marks p)
    (on (set marks e.node true) (entries_below (suc e.depth) (far e.node) ++ p))

-- what is drawn if these nodes have marks, p is to come, and at most `fuel` nodes have no mark
abbrev pub draw : (ℕ → List ℕ) → ℕ → List Bool → List Entry → List Entry
draw far zero = draw_seen far (λ marks p. [])
draw far (suc fuel) = draw_seen far (draw far fuel)

-- what is drawn if these nodes have marks and p is to come
unfoldable pub rest_of : (ℕ → List ℕ) → List Bool → List Entry → List Entry
rest_of far marks p = draw far (unmarked_count marks) marks p

-- the drawing from a start
abbrev pub drawing : (ℕ → List ℕ) → ℕ → ℕ → List Entry
drawing far nodes start = rest_of far (replicate nodes false)
    (record { node = start; depth = 0 } ∷ [])

-- the marks of these nodes, and no others, are set
abbrev pub AreMarked : List Bool → List ℕ → Type 0
AreMarked marks nodes = (k : ℕ) → k < length marks → get_or marks k true ≡ is_one_of k nodes
