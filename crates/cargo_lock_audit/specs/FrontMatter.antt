-- The file of an advisory as lines. White space before the first line is dropped. The first line is
-- "```toml". Then comes the front matter, up to the next line that begins with "```", and the first
-- line after that which is not empty is `# TITLE`.
use Rattle.std.specs.Prelude.{◌==◌, ◌++◌, [], ◌∷◌, ℕ, Bool, List, Option, None, Some, bytes_eq}
use Rattle.std.specs.Prelude.{codes}
use Rattle.std.specs.Prelude.{drop, if◌then◌else◌, length, map, nat_eq, position}
use Rattle.std.specs.Borrow.{Bor}
use Rattle.std.specs.List.{flat_map, starts_with}
use Rattle.cargo_lock_parts.specs.Ascii.{newline}

-- the lines to which references refer
abbrev pub lines_at : List (Bor (List ℕ)) → List (List ℕ)
lines_at = map (λ l. l.now)

-- the lines after the first one, which begins the front matter
abbrev pub body_of : List (List ℕ) → Option (List (List ℕ))
body_of [] = None
body_of (line ∷ rest) = if bytes_eq line (codes "```toml") then Some rest else None

-- the line ends the front matter
abbrev pub is_fence : List ℕ → Bool
is_fence line = starts_with nat_eq line (codes "```")

-- how many lines the front matter has: those before the first one that ends it
abbrev pub front_length : List (List ℕ) → Option ℕ
front_length = position is_fence

-- a line, with its newline
abbrev pub line_text : List ℕ → List ℕ
line_text line = line ++ newline ∷ []

-- lines, each with its newline
abbrev pub joined : List (List ℕ) → List ℕ
joined = flat_map line_text

-- the title in a line
abbrev pub title_of : List ℕ → Option (List ℕ)
title_of line = if starts_with nat_eq line (codes "# ") then Some (drop 2 line) else None

-- the title in the first line that is not empty
abbrev pub title_in : List (List ℕ) → Option (List ℕ)
title_in [] = None
title_in (line ∷ rest) = if length line == 0 then title_in rest else title_of line
