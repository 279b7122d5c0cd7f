-- The text of a drawing: one line for each entry, whose prefix is computed from the earlier entries
-- and their children.
-- The rule is that of `Presenter` in `src/dependency/tree.rs` of the Rust crate `cargo-lock`
-- 11.0.1, which has code of `cargo-tree`.
use Rattle.std.specs.Prelude.{ℕ, zero, suc, ◌-◌, Bool, false, ◌||◌, cond, eqb, leb, List, [], ◌∷◌}
use Rattle.std.specs.Prelude.{◌++◌, drop, length, get_or}
use Rattle.cargo_lock_parts.specs.Ascii.{newline, space}
use Rattle.cargo_lock_graph.specs.declared.drawing.entry.Entry.{Entry}
use Rattle.cargo_lock_graph.specs.DrawingPlaces.{child_places, no_entry}

-- the texts of the four symbols
pub record SymbolTexts : Type 0 where
  pub down : List ℕ
  pub tee : List ℕ
  pub ell : List ℕ
  pub right : List ℕ

-- `│`, `├`, `└` and `─`, in UTF-8
abbrev pub standard_symbols : SymbolTexts
standard_symbols = record {
  down = 226 ∷ 148 ∷ 130 ∷ [];
  tee = 226 ∷ 148 ∷ 156 ∷ [];
  ell = 226 ∷ 148 ∷ 148 ∷ [];
  right = 226 ∷ 148 ∷ 128 ∷ [];
}

-- the part of a prefix for a level above an entry: `down` if more follows on the level, otherwise a
-- space, and then three spaces
abbrev pub level_text : SymbolTexts → Bool → List ℕ
level_text s more = cond more s.down (space ∷ []) ++ (space ∷ space ∷ space ∷ [])

-- the part of a prefix directly before an entry's label: `tee` if more follows on its own level,
-- otherwise `ell`, and then `right` twice and a space
abbrev pub branch_text : SymbolTexts → Bool → List ℕ
branch_text s more = (cond more s.tee s.ell ++ s.right) ++ (s.right ++ space ∷ [])

-- the depth of the entry at a place
abbrev pub depth_at : List Entry → ℕ → ℕ
depth_at es k = (get_or es k no_entry).depth

-- the last place, before a place, of an entry of a depth
abbrev pub last_before : List Entry → ℕ → ℕ → ℕ
last_before es depth zero = 0
last_before es depth (suc k) = cond (eqb (depth_at es k) depth) k (last_before es depth k)

-- the places of the children of the entry at a place
abbrev pub children_at : List Entry → ℕ → List ℕ
children_at es p = child_places (depth_at es p) (suc p) (drop (suc p) es)

-- the place of the parent of the entry at a place: the last entry before it that is one less deep
abbrev pub parent_of : List Entry → ℕ → ℕ
parent_of es k = last_before es (depth_at es k - 1) k

-- one of the numbers is greater than this one
abbrev pub is_any_above : ℕ → List ℕ → Bool
is_any_above k [] = false
is_any_above k (n ∷ ns) = leb (suc k) n || is_any_above k ns

-- a later child of the same parent follows
abbrev pub has_later_sibling : List Entry → ℕ → Bool
has_later_sibling es k = is_any_above k (children_at es (parent_of es k))

-- The parts for the levels 1 to a number above the entry at a place. The ancestor at a level is the
-- last earlier entry of that depth.
abbrev pub levels_at : SymbolTexts → List Entry → ℕ → ℕ → List ℕ
levels_at s es k zero = []
levels_at s es k (suc level) =
    levels_at s es k level ++ level_text s (has_later_sibling es (last_before es (suc level) k))

-- the prefix of an entry of this depth at a place: nothing at depth 0
abbrev pub prefix_at : SymbolTexts → List Entry → ℕ → ℕ → List ℕ
prefix_at s es k zero = []
prefix_at s es k (suc level) = levels_at s es k level ++ branch_text s (has_later_sibling es k)

-- the line of the entry at a place: its prefix, its label and a newline
abbrev pub line_at : SymbolTexts → (ℕ → List ℕ) → List Entry → ℕ → List ℕ
line_at s label es k =
    prefix_at s es k (depth_at es k) ++ (label (get_or es k no_entry).node ++ newline ∷ [])

-- the lines of so many entries from a place on
abbrev pub lines_from : SymbolTexts → (ℕ → List ℕ) → List Entry → ℕ → ℕ → List ℕ
lines_from s label es k zero = []
lines_from s label es k (suc count) = line_at s label es k ++ lines_from s label es (suc k) count

-- the text of a drawing, where `label` gives the label of a node
unfoldable pub drawing_text : SymbolTexts → (ℕ → List ℕ) → List Entry → List ℕ
drawing_text s label es = lines_from s label es 0 (length es)
