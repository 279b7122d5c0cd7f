-- The references in the values of a table that resolve to nothing. What a reference resolves to is
-- the rule of `cargo_lock_references`.
use Rattle.std.specs.Prelude.{◌+◌, ◌++◌, ◌∷◌, [], ℕ, List, map, Option, None, Some}
use Rattle.std.specs.List.{flat_map}
use Rattle.cargo_lock_parts.specs.Identity.{Identity}
use Rattle.cargo_lock_encoding.specs.Lockfiles.{EncodedData}
use Rattle.cargo_lock_encoding.specs.Means.{reading_list}
use Rattle.cargo_lock_references.specs.declared.version.ResolveVersion.{ResolveVersion}
use Rattle.cargo_lock_references.specs.declared.version.ResolveVersion.TheVariants.{V1, V2, V3, V4}
use Rattle.cargo_lock_references.specs.Records.{EncodedPackage, encoded_identity}
use Rattle.cargo_lock_references.specs.Reference.{Reference}
use Rattle.cargo_lock_references.specs.ResolutionSearch.{resolution_of}
use Rattle.cargo_lock_table_flaws.specs.declared.finding.Place.{Place}
use Rattle.cargo_lock_table_flaws.specs.declared.finding.Place.TheVariants.{Listed, Root}
use Rattle.cargo_lock_table_flaws.specs.declared.finding.Role.{Role}
use Rattle.cargo_lock_table_flaws.specs.declared.finding.Role.TheVariants.{Dependency}
use Rattle.cargo_lock_table_flaws.specs.declared.finding.Role.TheVariants.{FullDependency}
use Rattle.cargo_lock_table_flaws.specs.declared.finding.Role.TheVariants.{Replacement}
use Rattle.cargo_lock_table_flaws.specs.Finding.{TableFindingData, Unresolved}
use Rattle.cargo_lock_table_flaws.specs.Unread.{in_some}

-- a reference of the package at a place, unless it resolves to something
abbrev pub unless_resolved : Place → EncodedPackage → Role → Reference → Option Identity
    → List TableFindingData
unless_resolved place p role f None = Unresolved place p f role ∷ []
unless_resolved place p role f (Some identity) = []

-- a reference of a package that does not resolve in this list
abbrev pub unresolved_in : List Identity → Place → EncodedPackage → Role → Reference
    → List TableFindingData
unresolved_in list place p role f = unless_resolved place p role f (resolution_of f list)

-- the dependencies of a package, in their order
abbrev pub unresolved_dependencies : List Identity → Role → Place → EncodedPackage
    → List Reference → List TableFindingData
unresolved_dependencies list role place p = flat_map (unresolved_in list place p role)

-- its replacement, which is in full in every format
abbrev pub unresolved_replacement : Place → EncodedPackage → List TableFindingData
unresolved_replacement place p = in_some (unresolved_in [] place p Replacement) p.replace

-- the references of a package
abbrev pub unresolved_of : List Identity → Role → Place → EncodedPackage → List TableFindingData
unresolved_of list role place p =
    unresolved_dependencies list role place p p.dependencies ++ unresolved_replacement place p

-- what the dependencies of listed packages are: in V1 they are in full
abbrev pub role_in : ResolveVersion → Role
role_in V1 = FullDependency
role_in V2 = Dependency
role_in V3 = Dependency
role_in V4 = Dependency

-- the references of these packages, in their order, of which the first has this number in its list
abbrev pub unresolved_of_each : List Identity → Role → ℕ → List EncodedPackage
    → List TableFindingData
unresolved_of_each list role number [] = []
unresolved_of_each list role number (p ∷ ps) =
    unresolved_of list role (Listed number) p ++ unresolved_of_each list role (number + 1) ps

-- the references of the root, which are in full in every format
abbrev pub unresolved_of_root : Option EncodedPackage → List TableFindingData
unresolved_of_root = in_some (unresolved_of [] FullDependency Root)

-- the references of a table with these values, in this format, each once and in order
unfoldable pub unresolved_references : ResolveVersion → EncodedData → List TableFindingData
unresolved_references format e =
    unresolved_of_each (reading_list format (map encoded_identity e.packages)) (role_in format) 1
    e.packages ++ unresolved_of_root e.root
