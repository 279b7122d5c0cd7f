-- The depth and the label that a line of a drawing reads as, without a tree.
use Rattle.std.specs.Prelude.{ℕ, zero, suc, true, false, cond, eqb, List, [], ◌∷◌, length, Option}
use Rattle.std.specs.Prelude.{Some, None}
use Rattle.cargo_lock_graph.specs.DrawingText.{standard_symbols, level_text, branch_text}

-- what follows this prefix, if a line has it
abbrev pub strip : List ℕ → List ℕ → Option (List ℕ)
strip [] line = Some line
strip (x ∷ front) [] = None
strip (x ∷ front) (y ∷ line) = cond (eqb x y) (strip front line) None

-- the first value, or else the second
abbrev pub or_else : {A : Type 0} → Option A → Option A → Option A
or_else (Some x) o = Some x
or_else None o = o

-- the same label, one deeper
abbrev pub deeper_by : Option (ℕ × List ℕ) → Option (ℕ × List ℕ)
deeper_by None = None
deeper_by (Some x) = Some (suc x.0, x.1)

-- what the rest of a line reads as, one deeper
abbrev pub then_read : (List ℕ → Option (ℕ × List ℕ)) → Option (List ℕ) → Option (ℕ × List ℕ)
then_read read None = None
then_read read (Some rest) = deeper_by (read rest)

-- the rest of a line as a label at depth 1
abbrev pub as_label : Option (List ℕ) → Option (ℕ × List ℕ)
as_label None = None
as_label (Some rest) = Some (1, rest)

-- After `tee` or `ell`, `right` twice and a space, a label at depth 1. After `down` or a space, and
-- three spaces, what the rest reads as, one deeper. Otherwise nothing. At most `fuel` levels are
-- read.
abbrev pub read_levels : ℕ → List ℕ → Option (ℕ × List ℕ)
read_levels zero line = None
read_levels (suc fuel) line =
    or_else (as_label
    (or_else (strip (branch_text standard_symbols true) line)
    (strip (branch_text standard_symbols false) line)))
    (then_read (read_levels fuel)
    (or_else (strip (level_text standard_symbols true) line)
    (strip (level_text standard_symbols false) line)))

-- the depth and the label of a line
unfoldable pub read_line : List ℕ → Option (ℕ × List ℕ)
read_line line = read_levels (length line) line
