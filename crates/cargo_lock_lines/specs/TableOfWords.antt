-- The words of a lockfile, the table that they make, and the expressions of TOML that make it.
use Rattle.std.specs.Prelude.{ℕ, ℤ, List, [], ◌∷◌, ◌++◌, Option, Some, None, option_map, map}
use Rattle.std.specs.Option.{option_to_list}
use Rattle.toml.specs.Data.{Data, string, integer, array, table, Members, no_members, member}
use Rattle.toml.specs.Tables.{Expression, key_value, array_table, std_table}
use Rattle.toml.specs.View.{items_of}
use Rattle.cargo_lock_lines.specs.Sections.{at_checksum, at_dependencies, metadata_section}
use Rattle.cargo_lock_lines.specs.Sections.{at_name, package_section, patch_section, at_replace}
use Rattle.cargo_lock_lines.specs.Sections.{at_source, unused_section, at_version}

-- ---- words

-- the words of what a package and an unused patch have
pub record LinedIdentity : Type 0 where
  pub name : List ℕ
  pub version : List ℕ
  pub source : Option (List ℕ)

-- the words of a package
pub record LinedPackage : Type 0 where
  pub identity : LinedIdentity
  pub checksum : Option (List ℕ)
  pub dependencies : List (List ℕ)
  pub replace : Option (List ℕ)

-- the words of a lockfile
pub record LinedLockfile : Type 0 where
  pub number : Option ℤ
  pub packages : List LinedPackage
  pub patches : List LinedIdentity
  pub metadata : List (List ℕ × List ℕ)

-- ---- tables

-- a member before others, if it has a value
abbrev pub present_member : List ℕ → Option Data → Members → Members
present_member k None rest = rest
present_member k (Some d) rest = member k d rest

-- the members that are present, in this order
abbrev pub present_members : List (List ℕ × Option Data) → Members
present_members [] = no_members
present_members (m ∷ ms) = present_member m.0 m.1 (present_members ms)

-- a list that is left out if it is empty
abbrev pub unless_empty : List Data → Option Data
unless_empty [] = None
unless_empty (d ∷ ds) = Some (array (items_of (d ∷ ds)))

-- the table of a package
abbrev pub lined_table : LinedPackage → Members
lined_table p = present_members (
    (at_checksum, option_map string p.checksum)
    ∷ (at_dependencies, unless_empty (map string p.dependencies))
    ∷ (at_name, Some (string p.identity.name))
    ∷ (at_replace, option_map string p.replace)
    ∷ (at_source, option_map string p.identity.source)
    ∷ (at_version, Some (string p.identity.version)) ∷ [])

-- a package as a value
abbrev pub lined_value : LinedPackage → Data
lined_value p = table (lined_table p)

-- the table of an unused patch
abbrev pub identity_table : LinedIdentity → Members
identity_table i = present_members (
    (at_name, Some (string i.name))
    ∷ (at_source, option_map string i.source)
    ∷ (at_version, Some (string i.version)) ∷ [])

-- an unused patch as a value
abbrev pub identity_value : LinedIdentity → Data
identity_value i = table (identity_table i)

-- the table of a list of unused patches
abbrev pub unused_table : List Data → Members
unused_table values = member (unused_section) (array (items_of values)) no_members

-- the table of unused patches, unless there are none
abbrev pub unless_no_patch : List Data → Option Data
unless_no_patch [] = None
unless_no_patch (d ∷ ds) = Some (table (unused_table (d ∷ ds)))

-- the members of a table of texts
abbrev pub text_members : List (List ℕ × List ℕ) → Members
text_members [] = no_members
text_members (m ∷ ms) = member m.0 (string m.1) (text_members ms)

-- a table of texts, unless there are none
abbrev pub unless_no_text : List (List ℕ × List ℕ) → Option Data
unless_no_text [] = None
unless_no_text (m ∷ ms) = Some (table (text_members (m ∷ ms)))

-- the table of a lockfile
unfoldable pub words_table : LinedLockfile → Members
words_table l = present_members (
    (metadata_section, unless_no_text l.metadata)
    ∷ (package_section, unless_empty (map lined_value l.packages))
    ∷ (patch_section, unless_no_patch (map identity_value l.patches))
    ∷ (at_version, option_map integer l.number) ∷ [])

-- ---- pairs and expressions

-- a key and its value
abbrev pub Pair : Type 0
Pair = List ℕ × Data

-- the expression of a pair
abbrev pub pair_expression : Pair → Expression
pair_expression m = (([], m.0), key_value m.1)

-- a key and a text
abbrev pub text_pair : List ℕ → List ℕ → Pair
text_pair k s = (k, string s)

-- the pair of a text that may be absent
abbrev pub optional_pairs : List ℕ → Option (List ℕ) → List Pair
optional_pairs k o = option_to_list (option_map (text_pair k) o)

-- the pair of a number that may be absent
abbrev pub number_pairs : Option ℤ → List Pair
number_pairs o = option_to_list (option_map (λ z. (at_version, integer z)) o)

-- the pair of the list of these texts, unless there are none
abbrev pub list_pairs : List (List ℕ) → List Pair
list_pairs [] = []
list_pairs (w ∷ ws) = (at_dependencies, array (items_of (map string (w ∷ ws)))) ∷ []

-- the pairs of an identity
abbrev pub identity_pairs : LinedIdentity → List Pair
identity_pairs i = text_pair (at_name) i.name ∷ text_pair (at_version) i.version
    ∷ optional_pairs (at_source) i.source

-- the pairs of a package
abbrev pub lined_pairs : LinedPackage → List Pair
lined_pairs p = identity_pairs p.identity ++ (optional_pairs (at_checksum) p.checksum
    ++ (list_pairs p.dependencies ++ optional_pairs (at_replace) p.replace))

-- an element of an array of tables
abbrev pub element : List (List ℕ) → List ℕ → List Pair → List Expression
element p k ms = ((p, k), array_table) ∷ map pair_expression ms

-- the expressions of a package
abbrev pub lined_expressions : LinedPackage → List Expression
lined_expressions p = element [] package_section (lined_pairs p)

-- the expressions of an unused patch
abbrev pub patch_expressions : LinedIdentity → List Expression
patch_expressions i = element (patch_section ∷ []) unused_section (identity_pairs i)

-- the pairs of texts
abbrev pub text_pairs : List (List ℕ × List ℕ) → List Pair
text_pairs ms = map (λ m. text_pair m.0 m.1) ms

-- the expressions of the metadata, unless there is none
abbrev pub metadata_expressions : List (List ℕ × List ℕ) → List Expression
metadata_expressions [] = []
metadata_expressions (m ∷ ms) =
    (([], metadata_section), std_table) ∷ map pair_expression (text_pairs (m ∷ ms))
