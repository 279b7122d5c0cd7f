-- The texts that are given for an option.
use Rattle.std.specs.Prelude.{ℕ, List, [], option_map, unwrap_or}
use Rattle.clap.specs.Matches.{matched_of, raw_values}
use Rattle.clap.specs.declared.parser.matches.Found.{Found}

-- the texts that are given for the option of this name, in their order
abbrev pub given_texts : Found → List ℕ → List (List ℕ)
given_texts found name = unwrap_or (option_map raw_values (matched_of found name)) []
