-- The words of a text, which are separated by the white space of Unicode.
-- White space is the property White_Space of Unicode, as in `str::split_whitespace` of Rust, by
-- which the Rust crate `cargo-lock` 11.0.1 reads a reference.
use Rattle.std.specs.Prelude.{◌≡◌, ℕ, Bool, List, [], ◌∷◌, map, true, false, chars, encode_utf8_all}
use Rattle.std.specs.Prelude.{filter, if◌then◌else◌}
use Rattle.std.specs.Char.{is_whitespace}
use Rattle.std.specs.Str.{NonePass, all_scalars, is_utf8}
use Rattle.std.specs.List.{slice_split}

-- there is at least one character
abbrev pub is_nonempty : List ℕ → Bool
is_nonempty [] = false
is_nonempty (x ∷ xs) = true

-- the words among some characters
abbrev pub words_of_chars : List ℕ → List (List ℕ)
words_of_chars cs = filter is_nonempty (slice_split is_whitespace cs)

-- the words of the characters of a text
abbrev pub text_words : List ℕ → List (List ℕ)
text_words text = map encode_utf8_all (words_of_chars (chars text))

-- the words of a text; bytes that are not a text have none
unfoldable pub words : List ℕ → List (List ℕ)
words text = if is_utf8 text then text_words text else []

-- the text has no white space: it is the text of characters, none of which is white space
pub record IsDense (text : List ℕ) : Type 0 where
  pub letters : List ℕ
  pub encoded : encode_utf8_all letters ≡ text
  pub scalar : all_scalars letters ≡ true
  pub none : NonePass is_whitespace letters

-- the text is a word: it has no white space, and is not empty
pub record IsWord (text : List ℕ) : Type 0 where
  pub dense : IsDense text
  pub nonempty : is_nonempty text ≡ true
