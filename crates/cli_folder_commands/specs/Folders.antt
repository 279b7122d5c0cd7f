-- The folders of packages that the arguments name.
use Rattle.std.specs.Prelude.{◌≢◌, ◌⊎◌, None, codes}
use Rattle.clap.specs.Matches.{first_value}
use Rattle.clap.specs.declared.parser.matches.Found.{Found}

-- the arguments name a folder that Cargo made, or one that `cargo vendor` made
abbrev pub IsFolderNamed : Found → Type 0
IsFolderNamed found = (first_value found (codes "cache") ≢ None)
    ⊎ (first_value found (codes "vendor") ≢ None)
