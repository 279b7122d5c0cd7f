-- The definition of a drawing by recursion on its entries. A law says that `DrawsFrom` and
-- `IsDrawing` are the same.
use Rattle.std.specs.Prelude.{◌≡◌, ℕ, suc, ◌<◌, ◌≤◌, cond, List, [], ◌∷◌}
use Rattle.cargo_lock_graph.specs.declared.drawing.entry.Entry.{Entry}
use Rattle.cargo_lock_graph.specs.Drawing.{children, is_one_of}

-- each depth is at least 1 and at most one more than the one before
abbrev pub AreSteps : ℕ → List Entry → Type 0
AreSteps before [] = Unit {0}
AreSteps before (e ∷ later) = (0 < e.depth) × (e.depth ≤ suc before) × AreSteps e.depth later

-- the nodes of the children of an entry of this node, after entries of these nodes
abbrev pub children_after : (ℕ → List ℕ) → List ℕ → ℕ → List ℕ
children_after far earlier node = cond (is_one_of node earlier) [] (far node)

-- each entry has the children that `children_after` gives
abbrev pub HaveChildren : (ℕ → List ℕ) → List ℕ → List Entry → Type 0
HaveChildren far earlier [] = Unit {0}
HaveChildren far earlier (e ∷ later) =
    (children e.depth later ≡ children_after far earlier e.node)
    × HaveChildren far (e.node ∷ earlier) later

-- the entries are the drawing from a start
abbrev pub DrawsFrom : (ℕ → List ℕ) → ℕ → List Entry → Type 0
DrawsFrom far start [] = ⊥
DrawsFrom far start (e ∷ later) =
    (e.node ≡ start) × (e.depth ≡ 0) × AreSteps 0 later × HaveChildren far [] (e ∷ later)
