-- Drawings of a tree as lists of entries.
--
-- A drawing starts at a node of a graph and follows its edges in one direction. `far` gives the far
-- ends of a node's edges in that direction, newest first. So a definition here is about every
-- graph, also one with cycles, edges from a node to itself, or several edges between two nodes.
use Rattle.std.specs.Prelude.{◌≡◌, ℕ, suc, ◌<◌, ◌≤◌, Bool, true, false, ◌||◌, cond, eqb, leb, List}
use Rattle.std.specs.Prelude.{[], ◌∷◌, ◌++◌, All}
use Rattle.cargo_lock_graph.specs.declared.drawing.entry.Entry.{Entry}

-- the number is one of the list
abbrev pub is_one_of : ℕ → List ℕ → Bool
is_one_of n [] = false
is_one_of n (m ∷ ms) = eqb n m || is_one_of n ms

-- the nodes of entries, in their order
abbrev pub nodes_of : List Entry → List ℕ
nodes_of [] = []
nodes_of (e ∷ es) = e.node ∷ nodes_of es

-- some entry is of the node
abbrev pub Occurs : ℕ → List Entry → Type 0
Occurs n es = is_one_of n (nodes_of es) ≡ true

-- The nodes of the children of an entry of this depth, from the later entries: those at one level
-- below it, before the first later entry that is no deeper than it.
abbrev pub children : ℕ → List Entry → List ℕ
children depth [] = []
children depth (e ∷ later) =
    cond (leb e.depth depth) []
    (cond (eqb e.depth (suc depth)) (e.node ∷ children depth later) (children depth later))

-- The entries are the drawing from a start. Each field holds for every way to split them into
-- earlier entries, one or two entries, and the later ones.
pub record IsDrawing (far : ℕ → List ℕ) (start : ℕ) (es : List Entry) : Type 0 where
  -- the first is of the start, at depth 0
  pub first : (later : List Entry) × (es ≡ record { node = start; depth = 0 } ∷ later)
  -- each later depth is at least 1 and at most one more than the depth before
  pub steps : (front later : List Entry) (a b : Entry) → es ≡ front ++ a ∷ b ∷ later → (0 < b.depth)
      × (b.depth ≤ suc a.depth)
  -- if no earlier entry has its node, an entry has a child for each far end, newest first
  pub expanded : (front later : List Entry) (e : Entry) → es ≡ front ++ e ∷ later
      → is_one_of e.node (nodes_of front) ≡ false → children e.depth later ≡ far e.node
  -- otherwise it has no children
  pub again : (front later : List Entry) (e : Entry) → es ≡ front ++ e ∷ later
      → is_one_of e.node (nodes_of front) ≡ true → children e.depth later ≡ []

-- the entries are some entries, the first entry of the node, and the later entries
pub record IsFirst (n : ℕ) (es front : List Entry) (e : Entry) (later : List Entry) : Type 0 where
  pub stands : es ≡ front ++ e ∷ later
  pub node : e.node ≡ n
  pub new : is_one_of n (nodes_of front) ≡ false

-- the nodes are the numbers below a count
abbrev pub AreBelow : (ℕ → List ℕ) → ℕ → Type 0
AreBelow far nodes = (k : ℕ) → All (λ j. j < nodes) (far k)
