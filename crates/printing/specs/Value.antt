-- Values that may be absent, in JSON.
use Rattle.std.specs.Prelude.{ℕ, List, Option, None, Some}
use Rattle.json.specs.Json.{Json, null, string}

-- a text, or null if there is none
abbrev pub text_or_null : Option (List ℕ) → Json
text_or_null None = null
text_or_null (Some text) = string text
