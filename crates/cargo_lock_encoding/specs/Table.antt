-- The table of a lockfile.
-- The rule is that of `From<&Lockfile> for EncodableLockfile` in `src/lockfile/encoding.rs` of the
-- Rust crate `cargo-lock` 11.0.1.
use Rattle.std.specs.Prelude.{ℕ, ℤ, pos, Bool, List, [], ◌∷◌, Option, Some, None, option_map, map}
use Rattle.std.specs.Prelude.{codes}
use Rattle.std.specs.FinMap.{entries}
use Rattle.std.specs.Cmp.Lexicographic.{slice_cmp}
use Rattle.std.specs.Ordering.{nat_cmp, match_ordering}
use Rattle.semver.specs.Identifiers.{parts_text}
use Rattle.toml.specs.Data.{Data, string, integer, array, table, Members, no_members, member}
use Rattle.toml.specs.View.{items_of}
use Rattle.cargo_lock_parts.specs.Checksum.{digest_text}
use Rattle.cargo_lock_parts.specs.Identity.{Identity, PackageData, identity_of}
use Rattle.cargo_lock_parts.specs.Source.{MarkedSource}
use Rattle.cargo_lock_parts.specs.SourceText.{marked_text}
use Rattle.cargo_lock_references.specs.declared.version.ResolveVersion.{ResolveVersion}
use Rattle.cargo_lock_references.specs.declared.version.ResolveVersion.TheVariants.{V1, V2, V3, V4}
use Rattle.cargo_lock_references.specs.WrittenReference.{written_reference, in_full, written_source}
use Rattle.cargo_lock_references.specs.Reference.{Reference, reference_text}
use Rattle.cargo_lock_references.specs.Metadata.{metadata_of}
use Rattle.cargo_lock_references.specs.Records.{EncodedPackage, Texts, is_escaped}
use Rattle.cargo_lock_lines.specs.TableOfWords.{present_members, unless_empty, unless_no_patch}
use Rattle.cargo_lock_lines.specs.TableOfWords.{unless_no_text}
use Rattle.cargo_lock_encoding.specs.Lockfiles.{EncodedData, LockfileData, is_escaped_number}

-- ---- the values that are written

-- the number that is written: Cargo leaves out those of V1 and V2
abbrev pub written_version : ResolveVersion → Option ℤ
written_version V1 = None
written_version V2 = None
written_version V3 = Some (pos 3)
written_version V4 = Some (pos 4)

-- in V1 the metadata has the checksums
abbrev pub written_checksum : ResolveVersion → Option (List ℕ) → Option (List ℕ)
written_checksum V1 checksum = None
written_checksum V2 checksum = checksum
written_checksum V3 checksum = checksum
written_checksum V4 checksum = checksum

-- a package with this checksum and with its dependencies written as these references; a replacement
-- is in full
abbrev pub encoded_package_with : ResolveVersion → Option (List ℕ) → (Identity → Reference)
    → PackageData → EncodedPackage
encoded_package_with format checksum reference p = record {
  name = p.name;
  version = p.version;
  source = written_source (is_escaped format) p.source;
  checksum = checksum;
  dependencies = map reference p.dependencies;
  replace = option_map (in_full (is_escaped format)) p.replace;
}

-- a package among those of the lockfile
abbrev pub encoded_package_of : ResolveVersion → List Identity → PackageData → EncodedPackage
encoded_package_of format list p = encoded_package_with format (written_checksum format p.checksum)
    (written_reference format list) p

-- the root, whose references are in full and which keeps its checksum
abbrev pub encoded_root : ResolveVersion → PackageData → EncodedPackage
encoded_root format p = encoded_package_with format p.checksum (in_full (is_escaped format)) p

-- the values of a lockfile's table
unfoldable pub encoded_of : LockfileData → EncodedData
encoded_of l = record {
  version = written_version l.version;
  packages = map (encoded_package_of l.version (map identity_of l.packages)) l.packages;
  root = option_map (encoded_root l.version) l.root;
  metadata = metadata_of l.version l.metadata l.packages;
  patch = l.patch;
}

-- ---- tables

-- a reference as a value
abbrev pub reference_value : Reference → Data
reference_value f = string (reference_text f)

-- a marked source as a value
abbrev pub source_value : MarkedSource → Data
source_value m = string (marked_text m)

-- a digest as a value
abbrev pub checksum_value : List ℕ → Data
checksum_value c = string (digest_text c)

-- the table of a package
abbrev pub package_table : EncodedPackage → Members
package_table e = present_members (
    (codes "checksum", option_map checksum_value e.checksum)
    ∷ (codes "dependencies", unless_empty (map reference_value e.dependencies))
    ∷ (codes "name", Some (string e.name))
    ∷ (codes "replace", option_map reference_value e.replace)
    ∷ (codes "source", option_map source_value e.source)
    ∷ (codes "version", Some (string (parts_text e.version))) ∷ [])

-- a package as a value
abbrev pub encoded_package_value : EncodedPackage → Data
encoded_package_value e = table (package_table e)

-- an unused patch, its source escaped or plain
abbrev pub patch_table : Bool → Identity → Members
patch_table escaped i = present_members (
    (codes "name", Some (string i.name))
    ∷ (codes "source", option_map source_value (written_source escaped i.source))
    ∷ (codes "version", Some (string (parts_text i.version))) ∷ [])

-- an unused patch as a value
abbrev pub unused_patch_value : Bool → Identity → Data
unused_patch_value escaped i = table (patch_table escaped i)

-- the unused patches, their sources escaped or plain
abbrev pub patch_value : Bool → List Identity → Option Data
patch_value escaped patch = unless_no_patch (map (unused_patch_value escaped) patch)

-- the metadata as a value, unless it is empty
abbrev pub metadata_value : Texts → Option Data
metadata_value m = unless_no_text (entries m)

-- the list of packages as a value
abbrev pub packages_value : List EncodedPackage → Data
packages_value es = array (items_of (map encoded_package_value es))

-- the table of these values
unfoldable pub encoded_table : EncodedData → Members
encoded_table e = present_members (
    (codes "metadata", metadata_value e.metadata)
    ∷ (codes "package", Some (packages_value e.packages))
    ∷ (codes "patch", patch_value (is_escaped_number e.version) e.patch)
    ∷ (codes "root", option_map encoded_package_value e.root)
    ∷ (codes "version", option_map integer e.version) ∷ [])

-- the table of a lockfile
abbrev pub table_of : LockfileData → Members
table_of l = encoded_table (encoded_of l)

-- ---- putting a value at a key

-- a member put into members that ascend
abbrev pub put : List ℕ → Data → Members → Members
put k d no_members = member k d no_members
put k d (member l e ms) = match_ordering (slice_cmp nat_cmp k l) (member k d (member l e ms))
    (member l d ms) (member l e (put k d ms))

-- a value put at a key, if there is one
abbrev pub put_present : List ℕ → Option Data → Members → Members
put_present k None ms = ms
put_present k (Some d) ms = put k d ms
