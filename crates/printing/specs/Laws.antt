-- What holds for shown texts.
use Rattle.std.specs.Prelude.{◌≡◌, ◌≢◌, ◌++◌, ◌∷◌, [], ℕ, true, List, All}
use Rattle.std.specs.Int.{IsInRange}
use Rattle.std.specs.List.{flat_map}
use Rattle.std.specs.Str.{IsUtf8}
use Rattle.std.specs.Str.Lines.{lines}
use Rattle.printing.specs.declared.form.Form.{Form}
use Rattle.printing.specs.declared.form.Form.TheVariants.{Plain, Quoted}
use Rattle.printing.specs.Shown.{backquote, shown, is_kept}

-- `b'\n'`
abbrev pub newline : ℕ
newline = 10

-- each byte is a visible character of ASCII or the space
abbrev pub IsPrintable : List ℕ → Type 0
IsPrintable = All (IsInRange 0x20 0x7E)

-- each byte is a visible character of ASCII, so the text has no spaces
abbrev pub IsVisible : List ℕ → Type 0
IsVisible = All (IsInRange 0x21 0x7E)

-- ---- laws

-- a shown text is printable, whatever bytes are shown
abbrev pub ShownIsPrintable : Type 0
ShownIsPrintable = (form : Form) (text : List ℕ) → IsPrintable (shown form text)

-- in the plain form it has no space either
abbrev pub PlainIsVisible : Type 0
PlainIsVisible = (text : List ℕ) → IsVisible (shown Plain text)

-- between backquotes it has no backquote, so the next one ends it
abbrev pub QuotedHasNoBackquote : Type 0
QuotedHasNoBackquote = (text : List ℕ) → All (λ b. b ≢ backquote) (shown Quoted text)

-- a text whose bytes are all kept is shown unchanged
abbrev pub ShownAsItStands : Type 0
ShownAsItStands = (form : Form) (text : List ℕ)
    → All (λ b. is_kept form b ≡ true) text → shown form text ≡ text

-- no two texts are shown alike
abbrev pub ShownApart : Type 0
ShownApart = (form : Form) (a b : List ℕ)
    → IsUtf8 a → IsUtf8 b → shown form a ≡ shown form b → a ≡ b

-- printable texts, each with a newline after it, are as many lines: the texts themselves
abbrev pub PrintableAreLines : Type 0
PrintableAreLines = (texts : List (List ℕ))
    → All IsPrintable texts → lines (flat_map (λ text. text ++ newline ∷ []) texts) ≡ texts
