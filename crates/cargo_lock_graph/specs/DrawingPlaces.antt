-- The places of entries and of their children, and how many entries there are.
use Rattle.std.specs.Prelude.{◌≡◌, ℕ, suc, ◌+◌, ◌<◌, cond, eqb, leb, List, [], ◌∷◌, ◌++◌, length}
use Rattle.std.specs.Prelude.{get_or}
use Rattle.cargo_lock_graph.specs.declared.drawing.entry.Entry.{Entry}
use Rattle.cargo_lock_graph.specs.Drawing.{IsFirst}
use Rattle.cargo_lock_graph.specs.DrawingSteps.{children_after}
use Rattle.cargo_lock_graph.specs.Paths.{IsReachable}

-- the places of the children of an entry of this depth, if the later entries begin at this place
abbrev pub child_places : ℕ → ℕ → List Entry → List ℕ
child_places depth at [] = []
child_places depth at (e ∷ later) =
    cond (leb e.depth depth) []
    (cond (eqb e.depth (suc depth)) (at ∷ child_places depth (suc at) later)
    (child_places depth (suc at) later))

-- the places of the children of each of the entries, if the first of them is at this place
abbrev pub all_places : ℕ → List Entry → List ℕ
all_places at [] = []
all_places at (e ∷ es) = child_places e.depth (suc at) es ++ all_places (suc at) es

-- how often the number is in the list
abbrev pub occurrences : ℕ → List ℕ → ℕ
occurrences j [] = 0
occurrences j (n ∷ ns) = cond (eqb n j) 1 0 + occurrences j ns

-- how many children all entries have
abbrev pub children_count : (ℕ → List ℕ) → List ℕ → List Entry → ℕ
children_count far earlier [] = 0
children_count far earlier (e ∷ es) =
    length (children_after far earlier e.node) + children_count far (e.node ∷ earlier) es

-- an entry for places that have none
abbrev pub no_entry : Entry
no_entry = record { node = 0; depth = 0 }

-- the number is in the list at this index
abbrev pub StandsAt : ℕ → List ℕ → ℕ → Type 0
StandsAt j ns k = (k < length ns) × (get_or ns k 0 ≡ j)

-- the place of a child of the first entry of a node; its children are counted from 0
pub record IsChildPlace (es : List Entry) (n k j : ℕ) : Type 0 where
  pub front : List Entry
  pub entry : Entry
  pub later : List Entry
  pub first : IsFirst n es front entry later
  pub child : StandsAt j (child_places entry.depth (suc (length front)) later) k

-- The edges of reachable nodes and the entries after the first match one to one. An edge is
-- identified by its node and by its place in the list of the node's edges, newest first.
pub record EdgesMatchEntries (far : ℕ → List ℕ) (start : ℕ) (es : List Entry) : Type 0 where
  -- the edge at a place leads to the child at that place, which is an entry of its far end
  pub child : (n k : ℕ) → IsReachable far start n → k < length (far n)
      → (j : ℕ) × IsChildPlace es n k j × (0 < j) × (j < length es)
      × ((get_or es j no_entry).node ≡ get_or (far n) k 0)
  -- each entry after the first is the child of such an edge
  pub edge : (j : ℕ) → 0 < j → j < length es → (n : ℕ) × (k : ℕ) × IsReachable far start n
      × (k < length (far n)) × IsChildPlace es n k j
  -- no entry is the child of two edges, and no edge has two children
  pub one_edge : (m n k l j : ℕ) → IsChildPlace es m k j → IsChildPlace es n l j → (m ≡ n) × (k ≡ l)
  pub one_child : (n k i j : ℕ) → IsChildPlace es n k i → IsChildPlace es n k j → i ≡ j
