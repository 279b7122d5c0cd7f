-- The text of a drawing, with the prefix of each line computed from the later entries. A lemma says
-- that this text is the same as `drawn`.
use Rattle.std.specs.Prelude.{ℕ, zero, suc, Bool, true, false, List, [], ◌∷◌, ◌++◌}
use Rattle.cargo_lock_parts.specs.Ascii.{newline}
use Rattle.cargo_lock_graph.specs.declared.drawing.entry.Entry.{Entry}
use Rattle.cargo_lock_graph.specs.Drawing.{children}
use Rattle.cargo_lock_graph.specs.DrawingText.{SymbolTexts, level_text, branch_text}

-- the list is not empty
abbrev pub is_any : List ℕ → Bool
is_any [] = false
is_any (n ∷ ns) = true

-- an entry at one level below this depth follows before one that is no deeper
abbrev pub goes_on : ℕ → List Entry → Bool
goes_on depth later = is_any (children depth later)

-- the levels 1 to a number
abbrev pub levels_text : SymbolTexts → ℕ → List Entry → List ℕ
levels_text s zero later = []
levels_text s (suc k) later = levels_text s k later ++ level_text s (goes_on k later)

-- the prefix of an entry of this depth
abbrev pub prefix_by_later : SymbolTexts → ℕ → List Entry → List ℕ
prefix_by_later s zero later = []
prefix_by_later s (suc k) later = levels_text s k later ++ branch_text s (goes_on k later)

-- the line of an entry
abbrev pub line_by_later : SymbolTexts → (ℕ → List ℕ) → Entry → List Entry → List ℕ
line_by_later s label e later = prefix_by_later s e.depth later ++ (label e.node ++ newline ∷ [])

-- the text of the entries
abbrev pub drawn_by_later : SymbolTexts → (ℕ → List ℕ) → List Entry → List ℕ
drawn_by_later s label [] = []
drawn_by_later s label (e ∷ later) = line_by_later s label e later ++ drawn_by_later s label later
