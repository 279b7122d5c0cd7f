-- The bytes that the texts of lockfiles, of drawings and of lines give a meaning to, by name.
use Rattle.std.specs.Prelude.{ℕ}

-- `b'\t'`
abbrev pub tab : ℕ
tab = 9

-- `b'\n'`
abbrev pub newline : ℕ
newline = 10

-- `b' '`
abbrev pub space : ℕ
space = 32

-- `b'"'`
abbrev pub quotation_mark : ℕ
quotation_mark = 34

-- `b'('`
abbrev pub left_bracket : ℕ
left_bracket = 40

-- `b')'`
abbrev pub right_bracket : ℕ
right_bracket = 41

-- `b'+'`
abbrev pub plus_sign : ℕ
plus_sign = 43

-- `b','`
abbrev pub comma : ℕ
comma = 44

-- `b'-'`
abbrev pub hyphen : ℕ
hyphen = 45

-- `b'.'`
abbrev pub dot : ℕ
dot = 46

-- `b'/'`
abbrev pub slash : ℕ
slash = 47

-- `b'\\'`
abbrev pub backslash : ℕ
backslash = 92

-- `b'_'`
abbrev pub underscore : ℕ
underscore = 95
