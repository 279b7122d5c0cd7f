-- Which lockfile a table means.
-- The rule is that of `TryFrom<EncodableLockfile> for Lockfile` in `src/lockfile/encoding.rs` of
-- the Rust crate `cargo-lock` 11.0.1.
use Rattle.std.specs.Prelude.{◌≡◌, ℕ, List, [], Option, Some, map}
use Rattle.std.specs.List.{AllZip}
use Rattle.toml.specs.Data.{Members}
use Rattle.toml.specs.Parse.{parse_document}
use Rattle.cargo_lock_parts.specs.Identity.{Identity, PackageData}
use Rattle.cargo_lock_references.specs.declared.version.ResolveVersion.{ResolveVersion}
use Rattle.cargo_lock_references.specs.declared.version.ResolveVersion.TheVariants.{V1, V2, V3, V4}
use Rattle.cargo_lock_encoding.specs.Lockfiles.{format_of}
use Rattle.cargo_lock_references.specs.Metadata.{checksum_in}
use Rattle.cargo_lock_parts.specs.Optional.{BothOrNone}
use Rattle.cargo_lock_references.specs.Records.{EncodedPackage, Texts, unmarked_source}
use Rattle.cargo_lock_references.specs.Records.{encoded_identity}
use Rattle.cargo_lock_encoding.specs.Lockfiles.{EncodedData, LockfileData}
use Rattle.cargo_lock_references.specs.ResolvesTo.{ResolvesTo}
use Rattle.cargo_lock_encoding.specs.TableReading.{encoded_at}

-- the list in which the references of packages are resolved: an empty one in V1, where they are in
-- full
abbrev pub reading_list : ResolveVersion → List Identity → List Identity
reading_list V1 list = []
reading_list V2 list = list
reading_list V3 list = list
reading_list V4 list = list

-- the checksum of an encoded package: in V1 the metadata has it
abbrev pub encoded_checksum : ResolveVersion → Texts → EncodedPackage → Option (List ℕ)
encoded_checksum V1 m e = checksum_in m e.name e.version
encoded_checksum V2 m e = e.checksum
encoded_checksum V3 m e = e.checksum
encoded_checksum V4 m e = e.checksum

-- the package that an encoded package means, with this checksum and its dependencies resolved in
-- this list; its replacement is in full in every format
pub record IsPackage (list : List Identity) (digest : Option (List ℕ)) (encoded : EncodedPackage)
    (p : PackageData) : Type 0 where
  pub name : p.name ≡ encoded.name
  pub version : p.version ≡ encoded.version
  pub source : p.source ≡ unmarked_source encoded.source
  pub checksum : p.checksum ≡ digest
  pub dependencies : AllZip
      (λ reference identity. ResolvesTo reference list identity) encoded.dependencies p.dependencies
  pub replace : BothOrNone
      (λ reference identity. ResolvesTo reference [] identity) encoded.replace p.replace

-- the package of an encoded package of the list, in this format
abbrev pub IsListed : ResolveVersion → List Identity → Texts → EncodedPackage → PackageData → Type 0
IsListed format list m encoded p = IsPackage (reading_list format list)
    (encoded_checksum format m encoded) encoded p

-- the root, whose references are in full and which keeps its own checksum
abbrev pub IsRoot : EncodedPackage → PackageData → Type 0
IsRoot encoded p = IsPackage [] encoded.checksum encoded p

-- the lockfile of these values
pub record IsLocked (e : EncodedData) (l : LockfileData) : Type 0 where
  pub format : format_of e ≡ Some l.version
  pub packages : AllZip
      (IsListed l.version (map encoded_identity e.packages) e.metadata) e.packages l.packages
  pub root : BothOrNone IsRoot e.root l.root
  pub metadata : l.metadata ≡ e.metadata
  pub patch : l.patch ≡ e.patch

-- The table means the lockfile: its values are read key by key, package k is that of encoded
-- package k, and sources are equal in every part, not only in their keys.
pub record Means (t : Members) (l : LockfileData) : Type 0 where
  pub encoded : EncodedData
  pub values : encoded_at t ≡ Some encoded
  pub lockfile_of : IsLocked encoded l

-- the text is that of a TOML table that means the lockfile
pub record TextMeans (text : List ℕ) (l : LockfileData) : Type 0 where
  pub table : Members
  pub parsed : parse_document text ≡ Some table
  pub means : Means table l

-- a table means at most one lockfile
abbrev pub MeansOne : Type 0
MeansOne = (t : Members) (a b : LockfileData) → Means t a → Means t b → a ≡ b
