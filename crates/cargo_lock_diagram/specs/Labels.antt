-- How the label of a package is written in a text of Graphviz or of Mermaid, so that no name can
-- end its label.
use Rattle.std.specs.Prelude.{◌≡◌, ◌≢◌, ℕ, ◌==◌, ◌||◌, All, Bool, if◌then◌else◌, List}
use Rattle.std.specs.Prelude.{[], ◌∷◌, ◌++◌, Option, Some, None, codes, decimal, encode_utf8}
use Rattle.std.specs.Prelude.{option_map}
use Rattle.std.specs.Int.{is_in_range}
use Rattle.std.specs.List.{flat_map}
use Rattle.std.specs.Str.{chars}
use Rattle.cargo_lock_diagram.specs.declared.label.Target.{Target}
use Rattle.cargo_lock_diagram.specs.declared.label.Target.TheVariants.{Dot, Mermaid}
use Rattle.printing.specs.Laws.{IsPrintable}
use Rattle.printing.specs.Shown.{backslash}

-- `'"'`, which ends a label
abbrev pub label_quote : ℕ
label_quote = 34

-- the character is a letter or a digit of ASCII
abbrev pub is_letter_or_digit : ℕ → Bool
is_letter_or_digit c = is_in_range 0x30 0x39 c
    || (is_in_range 0x41 0x5A c || is_in_range 0x61 0x7A c)

-- the character is a space or one of `+`, `-`, `.` and `_`
abbrev pub is_mark : ℕ → Bool
is_mark c = c == 0x20 || (c == 0x2B || (c == 0x2D || (c == 0x2E || c == 0x5F)))

-- the character is one of these
abbrev pub is_plain : ℕ → Bool
is_plain c = is_letter_or_digit c || is_mark c

-- `&`, which begins an entity of HTML, as `&lt;`
abbrev pub ampersand : ℕ
ampersand = 38

-- A character in a label. Graphviz reads a quote or a backslash after a backslash as itself and
-- `&amp;` as `&`, and Mermaid reads `#`, a number and `;` as the character with that number.
abbrev pub escaped_char : Target → ℕ → List ℕ
escaped_char Dot c = if c == label_quote || c == backslash then codes "\\" ++ encode_utf8 c
    else (if c == ampersand then codes "&amp;" else encode_utf8 c)
escaped_char Mermaid c = if is_plain c then c ∷ []
    else codes "#" ++ (decimal c ++ codes ";")

-- the characters of a text, each as it is in a label
unfoldable pub escaped : Target → List ℕ → List ℕ
escaped target text = flat_map (escaped_char target) (chars text)

-- ---- how Graphviz reads a label

-- a byte before what is read of a label; what follows the label stays
abbrev pub with_byte : ℕ → List ℕ × List ℕ → List ℕ × List ℕ
with_byte b read = (b ∷ read.0, read.1)

-- where a reader of a label is: between two characters, behind a backslash, or in an entity, of
-- which this is still to come
pub data Reading : Type 0 where
  Between : Reading
  BehindBackslash : Reading
  InEntity : List ℕ → Reading

-- The label of a quoted string from here on, and what follows the quote that ends it. A quote or a
-- backslash behind a backslash is itself, and the entity `&amp;` is `&`. Other texts that begin
-- with a backslash or with `&` mean something else to Graphviz, and are not read here. There is no
-- label if no quote ends it.
unfoldable pub read_label : Reading → List ℕ → Option (List ℕ × List ℕ)
read_label reading [] = None
read_label Between (b ∷ bs) = if b == label_quote then Some ([], bs)
    else (if b == backslash then read_label BehindBackslash bs
    else (if b == ampersand then read_label (InEntity (codes "amp;")) bs
    else option_map (with_byte b) (read_label Between bs)))
read_label BehindBackslash (b ∷ bs) = if b == label_quote || b == backslash
    then option_map (with_byte b) (read_label Between bs) else None
read_label (InEntity []) (b ∷ bs) = None
read_label (InEntity (e ∷ [])) (b ∷ bs) =
    if b == e then option_map (with_byte ampersand) (read_label Between bs) else None
read_label (InEntity (e ∷ f ∷ rest)) (b ∷ bs) =
    if b == e then read_label (InEntity (f ∷ rest)) bs else None

-- ---- laws

-- Graphviz reads exactly the text as the label, and then what follows
abbrev pub DotLabelIsRead : Type 0
DotLabelIsRead = (text rest : List ℕ) → IsPrintable text
    → read_label Between (escaped Dot text ++ label_quote ∷ rest) ≡ Some (text, rest)

-- a label of Mermaid has no quote
abbrev pub MermaidLabelHasNoQuote : Type 0
MermaidLabelHasNoQuote = (text : List ℕ) → All (λ b. b ≢ label_quote) (escaped Mermaid text)
