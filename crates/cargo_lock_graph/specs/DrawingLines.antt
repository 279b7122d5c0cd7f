-- What the lines of a drawing's text say.
use Rattle.std.specs.Prelude.{◌≡◌, ℕ, false, cond, eqb, List, [], ◌∷◌, ◌++◌, Some}
use Rattle.semver.specs.Identifiers.{parts_text}
use Rattle.cargo_lock_parts.specs.Ascii.{newline}
use Rattle.cargo_lock_parts.specs.Identity.{PackageData}
use Rattle.cargo_lock_graph.specs.declared.drawing.entry.Entry.{Entry}
use Rattle.cargo_lock_graph.specs.Drawing.{Occurs, is_one_of}
use Rattle.cargo_lock_graph.specs.Labels.{exact_text}
use Rattle.cargo_lock_graph.specs.ReadLine.{read_line}

-- The lines of a text, each ended by a newline, after `line`, the part of the first line that was
-- read before. The text after the last newline is not a line.
abbrev pub cut : List ℕ → List ℕ → List (List ℕ)
cut line [] = []
cut line (x ∷ xs) = cond (eqb x newline) (line ∷ cut [] xs) (cut (line ++ x ∷ []) xs)

-- no entry's label has a newline
abbrev pub AreLines : (ℕ → List ℕ) → List Entry → Type 0
AreLines label [] = Unit {0}
AreLines label (e ∷ es) = (is_one_of newline (label e.node) ≡ false) × AreLines label es

-- there are as many lines as entries, and each line reads as its entry's depth and label
abbrev pub Tell : (ℕ → List ℕ) → List Entry → List (List ℕ) → Type 0
Tell label [] [] = Unit {0}
Tell label (e ∷ es) (l ∷ ls) = (read_line l ≡ Some (e.depth, label e.node)) × Tell label es ls
Tell label [] (l ∷ ls) = ⊥
Tell label (e ∷ es) [] = ⊥

-- the text of lines, each ended by a newline
abbrev pub ended_lines : List (List ℕ) → List ℕ
ended_lines [] = []
ended_lines (l ∷ ls) = l ++ newline ∷ ended_lines ls

-- nodes of these entries with the same label are the same node
abbrev pub LabelsAreDistinct : (ℕ → List ℕ) → List Entry → List Entry → Type 0
LabelsAreDistinct label es fs = (m n : ℕ) → Occurs m es → Occurs n fs → label m ≡ label n → m ≡ n

-- the package's name, version and exact text hold no newline
pub record HasNoNewline (p : PackageData) : Type 0 where
  pub name : is_one_of newline p.name ≡ false
  pub version : is_one_of newline (parts_text p.version) ≡ false
  pub exact : is_one_of newline (exact_text p.checksum p.source) ≡ false

-- the first line is the label of the first entry, and each later line reads as its entry
abbrev pub TellAll : (ℕ → List ℕ) → List Entry → List (List ℕ) → Type 0
TellAll label (e ∷ es) (l ∷ ls) = (l ≡ label e.node) × Tell label es ls
TellAll label es ls = ⊥
