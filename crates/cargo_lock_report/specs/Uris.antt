-- Paths as references of RFC 3986, and which URLs are URIs of it.
use Rattle.std.specs.Prelude.{◌≡◌, ◌==◌, ◌||◌, ◌&&◌, ◌++◌, [], ◌∷◌, ℕ, Bool, List, All, codes}
use Rattle.std.specs.Prelude.{drop, eqb, if◌then◌else◌, length, nat_le, not, true}
use Rattle.std.specs.Char.{is_ascii_alphanumeric}
use Rattle.std.specs.List.{count_by, flat_map, list_all, list_any, starts_with}
use Rattle.percent_encoding.specs.Percent.{percent_encode_byte}

-- the byte stands in a path as it is: an ASCII letter, a digit, or one of these
abbrev pub is_path_byte : ℕ → Bool
is_path_byte b = is_ascii_alphanumeric b || list_any (λ c. b == c) (codes "-._~/")

-- a path with each other byte as `%` and two upper-case hex digits
unfoldable pub escaped_path : List ℕ → List ℕ
escaped_path = flat_map (λ b. if is_path_byte b then b ∷ [] else percent_encode_byte b)

-- the reference of a path: it is relative if the path is
abbrev pub uri_of_path : List ℕ → List ℕ
uri_of_path path = if starts_with eqb path (codes "/")
    then codes "file://" ++ escaped_path path else escaped_path path

-- ---- links

-- the byte is a mark that may stand behind the scheme of a link
abbrev pub is_link_mark : ℕ → Bool
is_link_mark b = list_any (λ c. b == c) (codes "-._~/?#!$&'()*+,;=")

-- the byte may stand there: it is a letter, a digit, or such a mark
abbrev pub is_link_byte : ℕ → Bool
is_link_byte b = is_ascii_alphanumeric b || is_link_mark b

-- the text has only such bytes
abbrev pub has_link_bytes : List ℕ → Bool
has_link_bytes rest = list_all is_link_byte rest

-- how many `#` it has
abbrev pub count_of_fragments : List ℕ → ℕ
count_of_fragments rest = count_by (λ b. b == 35) rest

-- the text is what follows the scheme of a link: of such bytes, with one `#` at most
abbrev pub is_link_rest : List ℕ → Bool
is_link_rest rest = not (length rest == 0)
    && (has_link_bytes rest && nat_le (count_of_fragments rest) 1)

-- the text is a URI of the web that needs no escape
abbrev pub is_link : List ℕ → Bool
is_link text = if starts_with eqb text (codes "https://") then is_link_rest (drop 8 text)
    else (starts_with eqb text (codes "http://") && is_link_rest (drop 7 text))

-- ---- law

-- no space, quote, backslash or bracket is in the reference of a path, and nothing beyond ASCII: its
-- bytes are letters, digits, `-._~/`, and the `%` and the `:` of escapes and of a scheme
abbrev pub UrisAreClean : Type 0
UrisAreClean = (path : List ℕ)
    → All (λ b. (is_path_byte b || (b == 37 || b == 58)) ≡ true) (uri_of_path path)
