-- What stands in the tables of packages and does not read. How a text reads is the rule of
-- `cargo_lock_encoding`: as a version, a source, a checksum or a reference; each text is a name.
use Rattle.std.specs.Prelude.{◌+◌, ◌++◌, ◌∷◌, [], ℕ, Bool, true, false, if◌then◌else◌, List, codes}
use Rattle.std.specs.Prelude.{is_some, Option, None, Some, option_map, unwrap_or}
use Rattle.std.specs.Option.{option_and_then}
use Rattle.toml.specs.Data.{Data, Items, no_items, item, Members, as_array, as_str, as_table}
use Rattle.toml.specs.Data.{get_member}
use Rattle.cargo_lock_parts.specs.Checksum.{digest_in}
use Rattle.cargo_lock_parts.specs.SourceReading.{source_of}
use Rattle.cargo_lock_references.specs.Reference.{reference_of, version_of}
use Rattle.cargo_lock_table_flaws.specs.declared.finding.Key.{Key}
use Rattle.cargo_lock_table_flaws.specs.declared.finding.Key.TheVariants.{Checksum, Dependencies}
use Rattle.cargo_lock_table_flaws.specs.declared.finding.Key.TheVariants.{Name, Replace, Source}
use Rattle.cargo_lock_table_flaws.specs.declared.finding.Key.TheVariants.{Version}
use Rattle.cargo_lock_table_flaws.specs.declared.finding.Place.{Place}
use Rattle.cargo_lock_table_flaws.specs.declared.finding.Place.TheVariants.{Listed, Root, Unused}
use Rattle.cargo_lock_table_flaws.specs.Finding.{NoList, NoText, Nothing, OwnerData}
use Rattle.cargo_lock_table_flaws.specs.Finding.{TableFindingData, Text, Unread, WrittenData}
use Rattle.cargo_lock_table_flaws.specs.Finding.{key_word}

-- ---- one value

-- what a value is
abbrev pub written_by : Option (List ℕ) → WrittenData
written_by None = NoText
written_by (Some text) = Text text

abbrev pub written_as : Data → WrittenData
written_as d = written_by (as_str d)

-- what a value is that may be absent
abbrev pub written_at : Option Data → WrittenData
written_at None = Nothing
written_at (Some d) = written_as d

-- the text reads as what its key has
abbrev pub is_read_text : Key → List ℕ → Bool
is_read_text Name text = true
is_read_text Version text = is_some (version_of text)
is_read_text Source text = is_some (source_of text)
is_read_text Checksum text = is_some (digest_in text)
is_read_text Dependencies text = is_some (reference_of text)
is_read_text Replace text = is_some (reference_of text)

-- a package may be without the key
abbrev pub is_optional : Key → Bool
is_optional Name = false
is_optional Version = false
is_optional Source = true
is_optional Checksum = true
is_optional Dependencies = true
is_optional Replace = true

-- what stands under a key reads
abbrev pub is_read : Key → WrittenData → Bool
is_read key Nothing = is_optional key
is_read key (Text text) = is_read_text key text
is_read key NoText = false
is_read key NoList = false

-- what stands under a key of a package, unless it reads
abbrev pub unless_read : OwnerData → Key → WrittenData → List TableFindingData
unless_read owner key written =
    if is_read key written then [] else (Unread owner key written ∷ [])

-- ---- one package

-- the findings of what there is
abbrev pub in_some : {X : Type 0} → (X → List TableFindingData) → Option X → List TableFindingData
in_some findings o = unwrap_or (option_map findings o) []

-- what stands under a key of a table
abbrev pub unread_at : OwnerData → Key → Members → List TableFindingData
unread_at owner key ms = unless_read owner key (written_at (get_member (key_word key) ms))

-- the items of a list of references, in their order
abbrev pub unread_items : OwnerData → Items → List TableFindingData
unread_items owner no_items = []
unread_items owner (item d ds) =
    unless_read owner Dependencies (written_as d) ++ unread_items owner ds

abbrev pub unread_list_by : OwnerData → Option Items → List TableFindingData
unread_list_by owner None = Unread owner Dependencies NoList ∷ []
unread_list_by owner (Some ds) = unread_items owner ds

-- the value under `dependencies`
abbrev pub unread_list : OwnerData → Data → List TableFindingData
unread_list owner d = unread_list_by owner (as_array d)

-- the references of a table
abbrev pub unread_references : OwnerData → Members → List TableFindingData
unread_references owner ms = in_some (unread_list owner) (get_member (codes "dependencies") ms)

-- the name, the version and the source of a table
abbrev pub unread_identity : OwnerData → Members → List TableFindingData
unread_identity owner ms =
    unread_at owner Name ms ++ (unread_at owner Version ms ++ unread_at owner Source ms)

-- its checksum, its references and its replacement
abbrev pub unread_parts : OwnerData → Members → List TableFindingData
unread_parts owner ms =
    unread_at owner Checksum ms ++ (unread_references owner ms ++ unread_at owner Replace ms)

-- the text under a key, if there is one
abbrev pub text_under : List ℕ → Members → Option (List ℕ)
text_under key ms = option_and_then as_str (get_member key ms)

-- the table at a place, with its name and its version
abbrev pub owner_at : Place → Members → OwnerData
owner_at place ms = record {
  place = place;
  name = text_under (codes "name") ms;
  version = text_under (codes "version") ms;
}

-- what does not read of a package, in the order in which its keys are read
abbrev pub unread_package : Place → Members → List TableFindingData
unread_package place ms =
    unread_identity (owner_at place ms) ms ++ unread_parts (owner_at place ms) ms

-- the same of an unused patch
abbrev pub unread_patch : Place → Members → List TableFindingData
unread_patch place ms = unread_identity (owner_at place ms) ms

-- ---- the whole table

-- a package of the list with this number; a value that is no table has no keys
abbrev pub unread_listed : ℕ → Data → List TableFindingData
unread_listed number d = in_some (unread_package (Listed number)) (as_table d)

-- an unused patch with this number
abbrev pub unread_unused : ℕ → Data → List TableFindingData
unread_unused number d = in_some (unread_patch (Unused number)) (as_table d)

-- the items of a list, which are numbered from this number on
abbrev pub unread_numbered : (ℕ → Data → List TableFindingData) → ℕ → Items
    → List TableFindingData
unread_numbered findings number no_items = []
unread_numbered findings number (item d ds) =
    findings number d ++ unread_numbered findings (number + 1) ds

-- a value that is a list
abbrev pub unread_each : (ℕ → Data → List TableFindingData) → Data → List TableFindingData
unread_each findings d = in_some (unread_numbered findings 1) (as_array d)

-- the packages under `package`
abbrev pub unread_packages : Members → List TableFindingData
unread_packages ms = in_some (unread_each unread_listed) (get_member (codes "package") ms)

-- a value that is the table of the root
abbrev pub unread_root_table : Data → List TableFindingData
unread_root_table d = in_some (unread_package Root) (as_table d)

-- the package under `root`
abbrev pub unread_root : Members → List TableFindingData
unread_root ms = in_some unread_root_table (get_member (codes "root") ms)

-- the unused patches of the table under `patch`
abbrev pub unread_patch_table : Members → List TableFindingData
unread_patch_table ms = in_some (unread_each unread_unused) (get_member (codes "unused") ms)

abbrev pub unread_patches_in : Data → List TableFindingData
unread_patches_in d = in_some unread_patch_table (as_table d)

-- the unused patches
abbrev pub unread_patches : Members → List TableFindingData
unread_patches ms = in_some unread_patches_in (get_member (codes "patch") ms)

-- what does not read in a table, each once: of the packages in their order, of the root, and of the
-- unused patches in their order
unfoldable pub unread_values : Members → List TableFindingData
unread_values ms = unread_packages ms ++ (unread_root ms ++ unread_patches ms)
