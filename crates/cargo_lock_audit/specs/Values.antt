-- Lists of texts in the table of an advisory.
use Rattle.std.specs.Prelude.{[], ℕ, List, Option, None, Some}
use Rattle.toml.specs.Data.{Data}
use Rattle.cargo_lock_parts.specs.Optional.{◌>>=◌}
use Rattle.toml_fields.specs.Fields.{items_in, read_all, text_in}

-- the texts of a list
abbrev pub text_list_in : Data → Option (List (List ℕ))
text_list_in d = items_in d >>= read_all text_in

-- texts, none if they are absent
abbrev pub texts_at_key : Option Data → Option (List (List ℕ))
texts_at_key None = Some []
texts_at_key (Some d) = text_list_in d
