-- The lockfiles of plain projects: a lockfile with only registry packages survives V2 to V4, and V1
-- if some package has a checksum.
use Rattle.std.specs.Prelude.{◌≡◌, ℕ, true, false, List, [], Some, None, IfSome, map, slice_get}
use Rattle.std.specs.FinMap.{empty}
use Rattle.std.specs.List.{AllByRecursion}
use Rattle.semver.specs.Identifiers.{parts_text}
use Rattle.cargo_lock_parts.specs.Identity.{Identity, PackageData, identity_of}
use Rattle.cargo_lock_parts.specs.Source.{Source, is_registry}
use Rattle.cargo_lock_parts.specs.SourceText.{text_of}
use Rattle.cargo_lock_references.specs.declared.version.ResolveVersion.TheVariants.{V1, V2, V3, V4}
use Rattle.cargo_lock_references.specs.WrittenReference.{mark}
use Rattle.cargo_lock_encoding.specs.Lockfiles.{LockfileData}
use Rattle.cargo_lock.specs.Shortest.{IsAmong}
use Rattle.cargo_lock_references.specs.ReadBack.{DigestReadsBack, SourceTextReadsBack, VersionSurvives}
use Rattle.cargo_lock_encoding.specs.Survives.{Survives}
use Rattle.cargo_lock_references.specs.Words.{IsDense, IsWord}

-- a registry whose text has no white space and reads back
pub record IsPlainSource (s : Source) : Type 0 where
  pub registry : is_registry s.kind ≡ true
  pub dense : IsDense (text_of false s)
  pub back : SourceTextReadsBack (mark false s)

-- no two places of the list have the same name and version
abbrev pub HasNoTwins : List Identity → Type 0
HasNoTwins list = (j k : ℕ) (x y : Identity) → slice_get list j ≡ Some x → slice_get list k ≡ Some y
    → x.name ≡ y.name → x.version ≡ y.version → j ≡ k

-- a package among these, whose dependencies are all among them
pub record IsPlainPackage (list : List Identity) (p : PackageData) : Type 0 where
  pub name : IsWord p.name
  pub word : IsWord (parts_text p.version)
  pub version : VersionSurvives p.version
  pub source : IfSome p.source IsPlainSource
  pub checksum : IfSome p.checksum DigestReadsBack
  pub dependencies : AllByRecursion (IsAmong list) p.dependencies
  pub replace : p.replace ≡ None

-- plain packages, no two with the same name and version, and nothing else
pub record IsPlain (l : LockfileData) : Type 0 where
  pub packages : AllByRecursion (IsPlainPackage (map identity_of l.packages)) l.packages
  pub no_twins : HasNoTwins (map identity_of l.packages)
  pub root : l.root ≡ None
  pub metadata : l.metadata ≡ empty
  pub patch : l.patch ≡ []

-- some package has a checksum
pub record HasSomeChecksum (l : LockfileData) : Type 0 where
  pub place : ℕ
  pub bearer : PackageData
  pub digest : List ℕ
  pub at : slice_get l.packages place ≡ Some bearer
  pub has : bearer.checksum ≡ Some digest

-- a plain lockfile survives V2, V3 and V4, and if some package has a checksum V1 too
abbrev pub PlainSurvives : Type 0
PlainSurvives = (l : LockfileData) → IsPlain l → Survives l V2 × Survives l V3 × Survives l V4
    × (HasSomeChecksum l → Survives l V1)
