-- How a text of a stranger is shown: in printable ASCII alone, so that no two texts are shown alike
-- and none reaches beyond its place in a line.
use Rattle.std.specs.Prelude.{ℕ, ◌==◌, ◌&&◌, Bool, not, if◌then◌else◌, List, [], ◌∷◌, ◌++◌, codes}
use Rattle.std.specs.Prelude.{false}
use Rattle.std.specs.Fmt.{digits}
use Rattle.std.specs.Int.{is_in_range}
use Rattle.std.specs.List.{flat_map}
use Rattle.std.specs.Str.{chars}
use Rattle.printing.specs.declared.form.Form.{Form}
use Rattle.printing.specs.declared.form.Form.TheVariants.{Plain, Quoted}

-- `'\\'`
abbrev pub backslash : ℕ
backslash = 92

-- `` '`' ``
abbrev pub backquote : ℕ
backquote = 96

-- the character is kept: a visible character of ASCII other than the backslash, and between
-- backquotes also the space, but no backquote
abbrev pub is_kept : Form → ℕ → Bool
is_kept Plain c = is_in_range 0x21 0x7E c && not (c == backslash)
is_kept Quoted c = is_in_range 0x20 0x7E c && (not (c == backslash) && not (c == backquote))

-- `\u{..}` with the number of the character, as `{:x}` writes it: in lower-case hexadecimal digits,
-- without a leading zero
abbrev pub by_number : ℕ → List ℕ
by_number c = codes "\\u{" ++ (digits 16 false c ++ codes "}")

-- a character as it is shown
abbrev pub shown_char : Form → ℕ → List ℕ
shown_char form c = if is_kept form c then c ∷ [] else by_number c

-- the characters of the text, each as it is shown
unfoldable pub shown : Form → List ℕ → List ℕ
shown form text = flat_map (shown_char form) (chars text)
