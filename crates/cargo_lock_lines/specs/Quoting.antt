-- Strings and keys of TOML, as a lockfile has them.
-- The rule is that of basic strings and bare keys in TOML 1.1.0.
use Rattle.std.specs.Prelude.{ℕ, ◌+◌, ◌/◌, ◌%◌, ◌==◌, ◌&&◌, ◌||◌, nat_lt, nat_le, not, Bool, true}
use Rattle.std.specs.Prelude.{false, if◌then◌else◌, List, [], ◌∷◌, ◌++◌, Option, Some, None, codes}
use Rattle.std.specs.List.{flat_map, list_all}
use Rattle.cargo_lock_lines.specs.Characters.{backslash, backspace, carriage_return, delete}
use Rattle.cargo_lock_lines.specs.Characters.{digit_nine, digit_zero, form_feed, hyphen, lower_a}
use Rattle.cargo_lock_lines.specs.Characters.{lower_b, lower_f, lower_n, lower_r, lower_t, lower_z}
use Rattle.cargo_lock_lines.specs.Characters.{newline, quotation_mark, space, tab, underscore}
use Rattle.cargo_lock_lines.specs.Characters.{upper_a, upper_z}

-- ---- strings: a TOML basic string. Escaped are the quotation mark, the backslash, the characters
-- below U+0020, and U+007F. TOML requires each of these escapes except that of the tab.

-- an upper-case hexadecimal digit: from ten on a letter, and 55 is ten less than `A`
abbrev pub hex_digit : ℕ → ℕ
hex_digit n = if nat_lt n 10 then digit_zero + n else 55 + n

-- a backslash, `u` and four digits
abbrev pub control_escape : ℕ → List ℕ
control_escape c = codes "\\u00" ++ (hex_digit (c / 16) ∷ hex_digit (c % 16) ∷ [])

-- the letter after the backslash, if a character has one
abbrev pub short_escape : ℕ → Option ℕ
short_escape c =
    if c == quotation_mark then Some quotation_mark
    else if c == backslash then Some backslash
    else if c == backspace then Some lower_b
    else if c == tab then Some lower_t
    else if c == newline then Some lower_n
    else if c == form_feed then Some lower_f
    else if c == carriage_return then Some lower_r
    else None

-- an escape of one letter, or else one by number, or else these bytes unchanged
abbrev pub escape_or : List ℕ → Option ℕ → ℕ → List ℕ
escape_or plain (Some letter) c = backslash ∷ letter ∷ []
escape_or plain None c = if nat_lt c space || (c == delete) then control_escape c else plain

-- a byte as it is in a TOML string: one past ASCII, which is a part of a character, is not escaped
abbrev pub escape_byte : ℕ → List ℕ
escape_byte b = escape_or (b ∷ []) (short_escape b) b

-- a byte that is not escaped
abbrev pub is_plain_byte : ℕ → Bool
is_plain_byte b = nat_le space b && not (b == quotation_mark) && not (b == backslash)
    && not (b == delete)

-- the bytes of the text, each escaped
unfoldable pub escape : List ℕ → List ℕ
escape text = flat_map escape_byte text

-- a text in quotation marks
abbrev pub quote : List ℕ → List ℕ
quote text = quotation_mark ∷ (escape text ++ quotation_mark ∷ [])

-- ---- keys of the metadata: bare if TOML allows it

-- a byte that may be in a key without quotation marks
abbrev pub is_bare_byte : ℕ → Bool
is_bare_byte b =
    (nat_le upper_a b && nat_le b upper_z) || (nat_le lower_a b && nat_le b lower_z)
    || (nat_le digit_zero b && nat_le b digit_nine) || (b == underscore) || (b == hyphen)

-- the text has at least one byte
abbrev pub is_nonempty_text : List ℕ → Bool
is_nonempty_text [] = false
is_nonempty_text (b ∷ bs) = true

-- the key is not empty and has only such bytes
abbrev pub is_bare_key : List ℕ → Bool
is_bare_key key = is_nonempty_text key && list_all is_bare_byte key

-- a key, with quotation marks if it needs them
abbrev pub key_text : List ℕ → List ℕ
key_text key = if is_bare_key key then key else quote key
