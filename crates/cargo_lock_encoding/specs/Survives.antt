-- When a lockfile survives a format, so that what is written in the format reads back: conditions
-- on its parts, one by one. Each says that a written text reads as the value for which it was
-- written.
use Rattle.std.specs.Prelude.{◌≡◌, ◌↔◌, true, false, List, [], IfSome, option_map, map}
use Rattle.std.specs.List.{AllByRecursion}
use Rattle.cargo_lock_parts.specs.Identity.{Identity, PackageData, identity_key, identity_of}
use Rattle.cargo_lock_parts.specs.Identity.{package_key}
use Rattle.cargo_lock_references.specs.declared.version.ResolveVersion.{ResolveVersion}
use Rattle.cargo_lock_references.specs.declared.version.ResolveVersion.TheVariants.{V1, V2, V3, V4}
use Rattle.cargo_lock_references.specs.WrittenReference.{written_reference, in_full}
use Rattle.cargo_lock_references.specs.Reference.{Reference}
use Rattle.cargo_lock_references.specs.Metadata.{checksum_in, has_checksum_key, metadata_of}
use Rattle.cargo_lock_references.specs.ReadBack.{DigestReadsBack, ReferenceSurvives, SourceSurvives}
use Rattle.cargo_lock_references.specs.ReadBack.{VersionSurvives}
use Rattle.cargo_lock_references.specs.Records.{Texts, is_escaped}
use Rattle.cargo_lock_encoding.specs.Lockfiles.{LockfileData}
use Rattle.cargo_lock_encoding.specs.Means.{Means, reading_list}
use Rattle.cargo_lock_encoding.specs.Table.{table_of}

-- ---- packages

-- a dependency, by its reference in full, which is resolved without a list
abbrev pub FullReferenceSurvives : ResolveVersion → Identity → Type 0
FullReferenceSurvives format d = ReferenceSurvives (in_full (is_escaped format) d) [] d

-- a dependency, by the reference that is written among these packages
abbrev pub WrittenReferenceSurvives : ResolveVersion → List Identity → Identity → Type 0
WrittenReferenceSurvives format list d =
    ReferenceSurvives (written_reference format list d) (reading_list format list) d

-- the version, the source and the replacement of a package
pub record OwnPartsSurvive (format : ResolveVersion) (p : PackageData) : Type 0 where
  pub version : VersionSurvives p.version
  pub source : IfSome p.source (SourceSurvives (is_escaped format))
  pub replace : IfSome p.replace (FullReferenceSurvives format)

-- a package whose dependencies are written as these references, and resolved in this list
pub record PackageSurvives (format : ResolveVersion) (reference : Identity → Reference)
    (list : List Identity)
    (p : PackageData) : Type 0 where
  pub own : OwnPartsSurvive format p
  pub dependencies : AllByRecursion (λ d. ReferenceSurvives (reference d) list d) p.dependencies

-- a package among these, without its checksum
abbrev pub SurvivesAmong : ResolveVersion → List Identity → PackageData → Type 0
SurvivesAmong format list p =
    PackageSurvives format (written_reference format list) (reading_list format list) p

-- the checksum is found again: in V1 in the written metadata
abbrev pub ChecksumSurvives : ResolveVersion → Texts → PackageData → Type 0
ChecksumSurvives V1 m p = checksum_in m p.name p.version ≡ p.checksum
ChecksumSurvives V2 m p = IfSome p.checksum DigestReadsBack
ChecksumSurvives V3 m p = IfSome p.checksum DigestReadsBack
ChecksumSurvives V4 m p = IfSome p.checksum DigestReadsBack

-- a package among those of the lockfile, with the metadata that is written
abbrev pub ListedSurvives : ResolveVersion → List Identity → Texts → PackageData → Type 0
ListedSurvives format list m p = SurvivesAmong format list p × ChecksumSurvives format m p

-- the root: its references are in full, and it keeps its checksum in every format
abbrev pub RootSurvives : ResolveVersion → PackageData → Type 0
RootSurvives format p =
    PackageSurvives format (in_full (is_escaped format)) [] p × IfSome p.checksum DigestReadsBack

-- an unused patch
abbrev pub PatchSurvives : ResolveVersion → Identity → Type 0
PatchSurvives format i = VersionSurvives i.version
    × IfSome i.source (SourceSurvives (is_escaped format))

-- ---- lockfiles

-- V1 and V2 have no number in the table: the written metadata distinguishes them
abbrev pub FormatSurvives : ResolveVersion → Texts → Type 0
FormatSurvives V1 m = has_checksum_key m ≡ true
FormatSurvives V2 m = has_checksum_key m ≡ false
FormatSurvives V3 m = Unit {0}
FormatSurvives V4 m = Unit {0}

-- the lockfile survives the format
pub record Survives (l : LockfileData) (format : ResolveVersion) : Type 0 where
  pub packages : AllByRecursion
      (ListedSurvives format (map identity_of l.packages)
      (metadata_of format l.metadata l.packages))
      l.packages
  pub root : IfSome l.root (RootSurvives format)
  pub patch : AllByRecursion (PatchSurvives format) l.patch
  pub told : FormatSurvives format (metadata_of format l.metadata l.packages)

-- ---- the purpose of survival

-- the lockfile, set to this format
abbrev pub in_format : ResolveVersion → LockfileData → LockfileData
in_format format l = record {
  version = format;
  packages = l.packages;
  root = l.root;
  metadata = l.metadata;
  patch = l.patch;
}

-- packages, root and patches are equal
pub record HasSamePackages (a b : LockfileData) : Type 0 where
  pub packages : map package_key a.packages ≡ map package_key b.packages
  pub root : option_map package_key a.root ≡ option_map package_key b.root
  pub patch : map identity_key a.patch ≡ map identity_key b.patch

-- the table written in this format means a lockfile of this format with equal packages, root and
-- patches
abbrev pub ReadsBack : LockfileData → ResolveVersion → Type 0
ReadsBack l format =
    (x : LockfileData) × Means (table_of (in_format format l)) x × (x.version ≡ format)
    × HasSamePackages x l

-- a lockfile survives a format exactly if what is written in it reads back
abbrev pub SurvivesExactly : Type 0
SurvivesExactly = (l : LockfileData) (format : ResolveVersion) → Survives l format
    ↔ ReadsBack l format
