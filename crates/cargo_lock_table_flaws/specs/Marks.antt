-- The marks of a conflict that a merge by lines leaves in a text.
use Rattle.std.specs.Prelude.{◌+◌, ◌||◌, ℕ, Bool, List, codes, nat_eq, position, Option, None, Some}
use Rattle.std.specs.Prelude.{option_map}
use Rattle.std.specs.List.{starts_with}
use Rattle.std.specs.Str.Lines.{lines}
use Rattle.toml.specs.Data.{Members}
use Rattle.toml.specs.Parse.{parse_document}

-- the line begins with seven of `<`, `|`, `=` or `>`
abbrev pub is_conflict_mark : List ℕ → Bool
is_conflict_mark line = starts_with nat_eq line (codes "<<<<<<<")
    || (starts_with nat_eq line (codes "|||||||")
    || (starts_with nat_eq line (codes "=======") || starts_with nat_eq line (codes ">>>>>>>")))

-- the place of the first mark, from 0 on
abbrev pub first_mark : List ℕ → Option ℕ
first_mark text = position is_conflict_mark (lines text)

-- no marks count in a text that is a table
abbrev pub unless_table : Option Members → Option ℕ → Option ℕ
unless_table None place = place
unless_table (Some t) place = None

-- the number of the first line with a mark, from 1 on, if the text is no table
abbrev pub conflict_mark_line : List ℕ → Option ℕ
conflict_mark_line text =
    unless_table (parse_document text) (option_map (λ place. place + 1) (first_mark text))
