-- How the text of a picture is read, line by line and without the graph, and the law that it reads
-- back.
use Rattle.std.specs.Prelude.{◌≡◌, ◌<◌, ◌≤◌, ◌^◌, ℕ, ◌==◌, All, if◌then◌else◌, List, [], ◌∷◌, ◌++◌}
use Rattle.std.specs.Prelude.{Option, Some, None, codes, length, map, option_map}
use Rattle.std.specs.Char.{is_ascii_digit}
use Rattle.std.specs.List.{filter_map}
use Rattle.std.specs.Str.Lines.{lines}
use Rattle.std.specs.Str.Parse.{digits_value}
use Rattle.cargo_lock_parts.specs.Identity.{PackageData}
use Rattle.cargo_lock_diagram.specs.Diagram.{arrow_sign, diagram_text}
use Rattle.cargo_lock_diagram.specs.Labels.{with_byte}
use Rattle.cargo_lock_diagram.specs.declared.label.Target.{Target}
use Rattle.cargo_lock_diagram.specs.declared.scene.Arrow.{Arrow}

-- what a line of a picture says: there is a node with a label, or an edge between two nodes
pub data Said : Type 0 where
  NodeOf : ℕ → Said
  EdgeOf : ℕ → ℕ → Said

-- what is behind a beginning, if the text has it
abbrev pub behind : List ℕ → List ℕ → Option (List ℕ)
behind [] text = Some text
behind (b ∷ bs) [] = None
behind (b ∷ bs) (c ∷ cs) = if b == c then behind bs cs else None

-- the digits with which a text begins, and what is behind them
abbrev pub cut_digits : List ℕ → List ℕ × List ℕ
cut_digits [] = ([], [])
cut_digits (c ∷ cs) = if is_ascii_digit c then with_byte c (cut_digits cs) else ([], c ∷ cs)

-- the number with which a text begins
abbrev pub leading_number : List ℕ → ℕ
leading_number text = digits_value 10 (cut_digits text).0

-- what a line says of a node, if this is behind the sign of an edge
abbrev pub said_of : ℕ → Option (List ℕ) → Said
said_of from None = NodeOf from
said_of from (Some text) = EdgeOf from (leading_number text)

-- what a line says: `n` and a number is a node, and one behind the sign of an edge the other node
abbrev pub read_picture_line : Target → List ℕ → Option Said
read_picture_line target line = option_map (λ text. said_of (leading_number text)
    (behind (arrow_sign target) (cut_digits text).1)) (behind (codes "  n") line)

-- what the lines of a text say that say something
abbrev pub read_picture : Target → List ℕ → List Said
read_picture target text = filter_map (read_picture_line target) (lines text)

-- The text of a picture reads back as its nodes, in order, and then its edges, in order. Numbers are
-- those that a computer of 64 bits has.
abbrev pub PictureIsRead : Type 0
PictureIsRead = (target : Target) (packages : List PackageData) (nodes : List ℕ) (arrows : List Arrow)
    → length packages ≤ 2 ^ 64 → All (λ k. k < length packages) nodes
    → All (λ a. (a.from < length packages) × (a.to < length packages)) arrows
    → read_picture target (diagram_text target packages nodes arrows)
    ≡ map NodeOf nodes ++ map (λ a. EdgeOf a.from a.to) arrows
