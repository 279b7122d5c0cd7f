-- What is shown to a terminal of a text: none of the characters that it would obey or would not
-- show.
-- The control characters are the category Cc of Unicode, and those of direction are in its Standard
-- Annex 9.
use Rattle.std.specs.Prelude.{◌≡◌, ℕ, ◌==◌, ◌||◌, Bool, false, if◌then◌else◌, List, All}
use Rattle.std.specs.Int.{is_in_range}
use Rattle.std.specs.List.{flat_map}
use Rattle.std.specs.Char.{encode_utf8}
use Rattle.std.specs.Str.{IsUtf8, chars}
use Rattle.printing.specs.Shown.{shown}
use Rattle.printing.specs.declared.form.Form.TheVariants.{Plain}

-- a control character other than the newline
abbrev pub is_control : ℕ → Bool
is_control c = is_in_range 0 9 c || is_in_range 0x0B 0x1F c || is_in_range 0x7F 0x9F c

-- a character that changes the direction of the text, separates lines or paragraphs, or has no
-- width
abbrev pub is_unseen : ℕ → Bool
is_unseen c = c == 0x61C || is_in_range 0x200B 0x200F c || is_in_range 0x2028 0x202E c
    || is_in_range 0x2060 0x2069 c || c == 0xFEFF

-- a terminal obeys the character or does not show it
abbrev pub is_hidden : ℕ → Bool
is_hidden c = is_control c || is_unseen c

-- a character unchanged, or by its number if it is hidden
abbrev pub visible_char : ℕ → List ℕ
visible_char c = if is_hidden c then shown Plain (encode_utf8 c) else encode_utf8 c

-- the characters of a text, each as it is shown to a terminal
unfoldable pub visible : List ℕ → List ℕ
visible text = flat_map visible_char (chars text)

-- ---- one line of a message

-- a hidden character, or the newline
abbrev pub is_hidden_in_line : ℕ → Bool
is_hidden_in_line c = c == 10 || is_hidden c

-- a character unchanged, or by its number if it is one of these
abbrev pub in_line_char : ℕ → List ℕ
in_line_char c = if is_hidden_in_line c then shown Plain (encode_utf8 c) else encode_utf8 c

-- the characters of a text, each as it is shown in one line of a message
unfoldable pub in_line : List ℕ → List ℕ
in_line text = flat_map in_line_char (chars text)

-- ---- the law

-- no hidden character is left
abbrev pub NothingIsHidden : Type 0
NothingIsHidden = (text : List ℕ) → IsUtf8 text
    → All (λ c. is_hidden c ≡ false) (chars (visible text))
