-- The values of a table, as Cargo writes them: a key's value is a text, a whole number, a list or a
-- table, and a text reads as a version, a source, a checksum or a reference.
-- The keys are those of `EncodableLockfile` and `EncodablePackage` in `src/lockfile/encoding.rs` of
-- the Rust crate `cargo-lock` 11.0.1.
use Rattle.std.specs.Prelude.{ℕ, ℤ, List, [], ◌∷◌, Option, Some, None, option_map, codes}
use Rattle.std.specs.FinMap.{empty, insert}
use Rattle.std.specs.Option.{option_and_then}
use Rattle.toml.specs.Data.{Data, string, array, table, integer, Items, no_items, item, Members}
use Rattle.toml.specs.Data.{no_members, member, get_member}
use Rattle.cargo_lock_parts.specs.Checksum.{digest_in}
use Rattle.cargo_lock_parts.specs.Identity.{Identity}
use Rattle.cargo_lock_parts.specs.Source.{Source}
use Rattle.cargo_lock_parts.specs.SourceReading.{source_of}
use Rattle.cargo_lock_references.specs.Reference.{Reference, reference_of, mark_plain, version_of}
use Rattle.cargo_lock_parts.specs.Optional.{◌>>=◌}
use Rattle.cargo_lock_references.specs.Records.{EncodedPackage, Texts}
use Rattle.toml_fields.specs.Fields.{members_in, number_in, optional_by, optional_list, read_all}
use Rattle.toml_fields.specs.Fields.{required_list, required_text, text_in}
use Rattle.cargo_lock_encoding.specs.Lockfiles.{EncodedData}

-- ---- texts

-- the source that a value reads as
abbrev pub source_in : Data → Option Source
source_in d = text_in d >>= source_of

-- the digest that a value reads as
abbrev pub checksum_from : Data → Option (List ℕ)
checksum_from d = text_in d >>= digest_in

-- the reference that a value reads as
abbrev pub reference_in : Data → Option Reference
reference_in d = text_in d >>= reference_of

-- ---- packages

-- the name, the version and the source of a table: all that an unused patch has
unfoldable pub identity_at : Members → Option Identity
identity_at ms = do
  name ← required_text (get_member (codes "name") ms)
  text ← required_text (get_member (codes "version") ms)
  version ← version_of text
  source ← optional_by source_in (get_member (codes "source") ms)
  Some (record { name = name; version = version; source = source })

-- the package that a table is
unfoldable pub package_at_key : Members → Option EncodedPackage
package_at_key ms = do
  identity ← identity_at ms
  checksum ← optional_by checksum_from (get_member (codes "checksum") ms)
  list ← optional_list (get_member (codes "dependencies") ms)
  references ← read_all reference_in list
  replace ← optional_by reference_in (get_member (codes "replace") ms)
  Some (record {
    name = identity.name;
    version = identity.version;
    source = option_map mark_plain identity.source;
    checksum = checksum;
    dependencies = references;
    replace = replace;
  })

-- the package that a value is
abbrev pub encoded_package_in : Data → Option EncodedPackage
encoded_package_in d = members_in d >>= package_at_key

-- the packages of a table, under `package`
unfoldable pub encoded_packages_at : Members → Option (List EncodedPackage)
encoded_packages_at ms = do
  list ← optional_list (get_member (codes "package") ms)
  read_all encoded_package_in list

-- the packages of a lockfile and its root
pub record EncodedPackages : Type 0 where
  pub listed : List EncodedPackage
  pub root : Option EncodedPackage

-- the packages of a table and its root, under `package` and `root`
unfoldable pub all_encoded_packages_at : Members → Option EncodedPackages
all_encoded_packages_at ms = do
  listed ← encoded_packages_at ms
  root ← optional_by encoded_package_in (get_member (codes "root") ms)
  Some (record { listed = listed; root = root })

-- ---- metadata: texts by keys

-- the map after each pair is put into it in turn
abbrev pub put_all : Texts → List (List ℕ × List ℕ) → Texts
put_all m [] = m
put_all m (e ∷ es) = put_all (insert m e.0 e.1) es

-- the members of a table of texts
abbrev pub pairs_in : Members → Option (List (List ℕ × List ℕ))
pairs_in no_members = Some []
pairs_in (member k d ms) = text_in d >>= λ v. option_map (λ es. (k, v) ∷ es) (pairs_in ms)

-- the texts of a table
abbrev pub texts_in : Members → Option Texts
texts_in ms = option_map (put_all empty) (pairs_in ms)

-- the metadata that a value is, or empty metadata if there is no value
abbrev pub metadata_in : Option Data → Option Texts
metadata_in None = Some empty
metadata_in (Some d) = members_in d >>= texts_in

-- ---- patches that no package uses

-- the unused patch that a value is
abbrev pub unused_patch_in : Data → Option Identity
unused_patch_in d = members_in d >>= identity_at

-- the unused patches of a table
abbrev pub patch_at : Members → Option (List Identity)
patch_at ms = required_list (get_member (codes "unused") ms) >>= read_all unused_patch_in

-- the unused patches that a value is, or none if there is no value
abbrev pub patch_in : Option Data → Option (List Identity)
patch_in None = Some []
patch_in (Some d) = members_in d >>= patch_at

-- ---- the whole table

-- the values of a table
unfoldable pub encoded_at : Members → Option EncodedData
encoded_at ms = do
  version ← optional_by number_in (get_member (codes "version") ms)
  all ← all_encoded_packages_at ms
  metadata ← metadata_in (get_member (codes "metadata") ms)
  patch ← patch_in (get_member (codes "patch") ms)
  Some (record {
    version = version;
    packages = all.listed;
    root = all.root;
    metadata = metadata;
    patch = patch;
  })
