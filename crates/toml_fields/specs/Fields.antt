-- The values of a table by their types: a key's value is a text, a whole number, a list or a table.
use Rattle.std.specs.Prelude.{[], ◌∷◌, ℕ, ℤ, List, Option, None, Some, option_map}
use Rattle.std.specs.Option.{option_and_then}
use Rattle.toml.specs.Data.{Data, string, array, table, integer, Items, no_items, item, Members}
use Rattle.cargo_lock_parts.specs.Optional.{◌>>=◌}

-- the text that a value is
abbrev pub text_in : Data → Option (List ℕ)
text_in (string s) = Some s
text_in _ = None

-- the whole number that a value is
abbrev pub number_in : Data → Option ℤ
number_in (integer z) = Some z
number_in _ = None

-- the list that a value is
abbrev pub items_in : Data → Option Items
items_in (array ds) = Some ds
items_in _ = None

-- the table that a value is
abbrev pub members_in : Data → Option Members
members_in (table ms) = Some ms
members_in _ = None

-- what a value reads as, if it may be absent
abbrev pub optional_by : {X : Type 0} → (Data → Option X) → Option Data → Option (Option X)
optional_by read None = Some None
optional_by read (Some d) = option_map Some (read d)

-- a text that is required
abbrev pub required_text : Option Data → Option (List ℕ)
required_text o = option_and_then text_in o

-- a text that may be absent
abbrev pub optional_text : Option Data → Option (Option (List ℕ))
optional_text = optional_by text_in

-- a table that is required
abbrev pub required_members : Option Data → Option Members
required_members o = option_and_then members_in o

-- a list that is empty if it is absent
abbrev pub optional_list : Option Data → Option Items
optional_list None = Some no_items
optional_list (Some d) = items_in d

-- a list that is required
abbrev pub required_list : Option Data → Option Items
required_list o = option_and_then items_in o

-- each item read, or none if some item reads as none
abbrev pub read_all : {X : Type 0} → (Data → Option X) → Items → Option (List X)
read_all read no_items = Some []
read_all read (item d ds) = read d >>= λ x. option_map (λ xs. x ∷ xs) (read_all read ds)
