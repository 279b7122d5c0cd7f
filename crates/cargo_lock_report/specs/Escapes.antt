-- How a text stands in a report.
-- The rules of annotations are those of the toolkit of GitHub Actions (`escapeData` and
-- `escapeProperty` of its `command.ts`), and the rule of braces is that of SARIF 2.1.0 on messages.
use Rattle.std.specs.Prelude.{◌==◌, ◌++◌, ℕ, List, codes, encode_utf8, if◌then◌else◌}
use Rattle.std.specs.List.{flat_map}
use Rattle.std.specs.Str.{chars}
use Rattle.cargo_lock_report.specs.declared.escape.Escape.{Escape}
use Rattle.cargo_lock_report.specs.declared.escape.Escape.TheVariants.{Braces, Message, Property}

-- a character of a message of SARIF, in which braces are doubled
abbrev pub doubled_char : ℕ → List ℕ
doubled_char c = if c == 123 then codes "{{" else (if c == 125 then codes "}}" else encode_utf8 c)

-- a character of the message of an annotation: `%`, the carriage return and the newline are escaped
abbrev pub message_char : ℕ → List ℕ
message_char c = if c == 37 then codes "%25" else (if c == 13 then codes "%0D"
    else (if c == 10 then codes "%0A" else encode_utf8 c))

-- a character of a property of an annotation: the colon and the comma are escaped too
abbrev pub property_char : ℕ → List ℕ
property_char c =
    if c == 58 then codes "%3A" else (if c == 44 then codes "%2C" else message_char c)

-- a character as it stands there
abbrev pub char_as : Escape → ℕ → List ℕ
char_as Braces = doubled_char
char_as Message = message_char
char_as Property = property_char

-- a text as it stands there: its characters, each as it stands there
unfoldable pub text_as : Escape → List ℕ → List ℕ
text_as escape text = flat_map (char_as escape) (chars text)
