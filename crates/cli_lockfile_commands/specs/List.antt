-- What `list` prints.
use Rattle.std.specs.Prelude.{ℕ, Bool, true, if◌then◌else◌, List, [], ◌∷◌, ◌++◌, Option, Some}
use Rattle.std.specs.Prelude.{None, codes}
use Rattle.std.specs.Io.KnownBytes.{Appends}
use Rattle.std.specs.List.{flat_map}
use Rattle.std.specs.Str.{bytes_eq}
use Rattle.clap.specs.Matches.{first_value}
use Rattle.clap.specs.declared.parser.matches.Found.{Found}
use Rattle.cargo_lock_parts.specs.Ascii.{newline}
use Rattle.cargo_lock_parts.specs.Identity.{Identity, PackageData, dependency_text, identity_of}
use Rattle.cargo_lock_encoding.specs.Lockfiles.{LockfileData}
use Rattle.cargo_lock.specs.Loads.{IsMeant}
use Rattle.cli_input.specs.Json.{IsFlag}

-- a line: what it begins with, and an identity, whose source is shown only where that is asked for
abbrev pub identity_line : List ℕ → Bool → Identity → List ℕ
identity_line start sources i =
    start ++ dependency_text (record i { source = if sources then i.source else None })
    ++ newline ∷ []

-- the lines of the dependencies of a package, where they are asked for
abbrev pub dependency_lines : Bool → Bool → PackageData → List ℕ
dependency_lines dependencies sources p =
    if dependencies then flat_map (identity_line (codes "  - ") sources) p.dependencies else []

-- the line of a package, and those of its dependencies
abbrev pub listed_package_lines : Bool → Bool → PackageData → List ℕ
listed_package_lines dependencies sources p =
    identity_line (codes "- ") sources (identity_of p) ++ dependency_lines dependencies sources p

-- the package has the name that is asked for, or no name is
abbrev pub is_wanted : Option (List ℕ) → PackageData → Bool
is_wanted None p = true
is_wanted (Some name) p = bytes_eq p.name name

-- the lines of the packages that are wanted, in their order
abbrev pub list_text : Bool → Bool → Option (List ℕ) → List PackageData → List ℕ
list_text dependencies sources wanted packages = flat_map
    (λ p. if is_wanted wanted p then listed_package_lines dependencies sources p else []) packages

-- these are the lines of a lockfile that some text means
pub record PrintsList (found : Found) (old new : Option (List ℕ)) : Type 0 where
  pub lockfile : LockfileData
  pub dependencies : Bool
  pub sources : Bool
  pub meant : IsMeant lockfile
  pub with_dependencies : IsFlag found (codes "dependencies") dependencies
  pub with_sources : IsFlag found (codes "sources") sources
  pub printed : Appends old new (list_text dependencies sources
      (first_value found (codes "package")) lockfile.packages)
