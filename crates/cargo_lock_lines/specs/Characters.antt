-- Characters of TOML by name: those that a string escapes, the letters of their escapes, the ends
-- of the ranges of letters and digits, and what stands between words.
-- The escapes are those of basic strings in TOML 1.1.0, and the letters and digits those of its
-- bare keys.
use Rattle.std.specs.Prelude.{ℕ}

-- `'\u{8}'`
abbrev pub backspace : ℕ
backspace = 8

-- `b'\t'`
abbrev pub tab : ℕ
tab = 9

-- `b'\n'`
abbrev pub newline : ℕ
newline = 10

-- `'\u{c}'`
abbrev pub form_feed : ℕ
form_feed = 12

-- `'\r'`
abbrev pub carriage_return : ℕ
carriage_return = 13

-- `b' '`
abbrev pub space : ℕ
space = 32

-- `b'"'`
abbrev pub quotation_mark : ℕ
quotation_mark = 34

-- `b','`
abbrev pub comma : ℕ
comma = 44

-- `b'-'`
abbrev pub hyphen : ℕ
hyphen = 45

-- `'0'`
abbrev pub digit_zero : ℕ
digit_zero = 48

-- `'9'`
abbrev pub digit_nine : ℕ
digit_nine = 57

-- `'A'`
abbrev pub upper_a : ℕ
upper_a = 65

-- `'Z'`
abbrev pub upper_z : ℕ
upper_z = 90

-- `b'\\'`
abbrev pub backslash : ℕ
backslash = 92

-- `b'_'`
abbrev pub underscore : ℕ
underscore = 95

-- `'a'`
abbrev pub lower_a : ℕ
lower_a = 97

-- `'b'`
abbrev pub lower_b : ℕ
lower_b = 98

-- `'f'`
abbrev pub lower_f : ℕ
lower_f = 102

-- `'n'`
abbrev pub lower_n : ℕ
lower_n = 110

-- `'r'`
abbrev pub lower_r : ℕ
lower_r = 114

-- `'t'`
abbrev pub lower_t : ℕ
lower_t = 116

-- `'z'`
abbrev pub lower_z : ℕ
lower_z = 122

-- `'\u{7f}'`
abbrev pub delete : ℕ
delete = 127
