-- What is found at a line, in JSON.
use Rattle.std.specs.Prelude.{ℕ, Option, None, Some, decimal}
use Rattle.json.specs.Json.{Json, null, number}

-- the number of a line, or null if it is not known
abbrev pub line_or_null : Option ℕ → Json
line_or_null None = null
line_or_null (Some n) = number (decimal n)
