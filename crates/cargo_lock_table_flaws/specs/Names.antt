-- The names of the packages that a table lists, and the lines in which these begin.
use Rattle.std.specs.Prelude.{◌∷◌, [], ℕ, List, Option, codes, option_map, unwrap_or}
use Rattle.std.specs.Option.{option_and_then}
use Rattle.std.specs.Str.Lines.{lines}
use Rattle.toml.specs.Data.{Data, Items, no_items, item, Members, as_array, as_table, get_member}
use Rattle.cargo_lock_location.specs.Location.{lines_of_names}
use Rattle.cargo_lock_table_flaws.specs.Unread.{text_under}

-- the text under `name` of a value that is a table, if there is one
abbrev pub name_in : Data → Option (List ℕ)
name_in d = option_and_then (text_under (codes "name")) (as_table d)

-- that of each item, in their order
abbrev pub names_of_items : Items → List (Option (List ℕ))
names_of_items no_items = []
names_of_items (item d ds) = name_in d ∷ names_of_items ds

-- the same of a value that is a list
abbrev pub names_in : Data → List (Option (List ℕ))
names_in d = unwrap_or (option_map names_of_items (as_array d)) []

-- the same of the list under `package`
abbrev pub listed_names : Members → List (Option (List ℕ))
listed_names t = unwrap_or (option_map names_in (get_member (codes "package") t)) []

-- the number of the line in which each package that a table lists begins in its text, where it is
-- known: that of a package without a text under `name` is not
abbrev pub listed_lines : List ℕ → Members → List (Option ℕ)
listed_lines text t = lines_of_names (lines text) (listed_names t)
