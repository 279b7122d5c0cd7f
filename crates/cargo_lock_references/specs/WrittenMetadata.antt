-- What the written metadata has at each key, defined by the places of the packages, without a list
-- in which one pair hides another.
-- The rule is that of `From<&Lockfile> for EncodableLockfile` in `src/lockfile/encoding.rs` of the
-- Rust crate `cargo-lock` 11.0.1.
use Rattle.std.specs.Prelude.{◌≡◌, ◌≢◌, ◌<◌, ℕ, List, Some, None, slice_get}
use Rattle.std.specs.FinMap.{get}
use Rattle.cargo_lock_parts.specs.Checksum.{digest_text}
use Rattle.cargo_lock_parts.specs.Identity.{PackageData, identity_of}
use Rattle.cargo_lock_references.specs.declared.version.ResolveVersion.{ResolveVersion}
use Rattle.cargo_lock_references.specs.declared.version.ResolveVersion.TheVariants.{V1}
use Rattle.cargo_lock_references.specs.Metadata.{checksum_key, metadata_of}
use Rattle.cargo_lock_references.specs.Records.{Texts}

-- the key is that of the package's checksum
abbrev pub IsKeyOf : List ℕ → PackageData → Type 0
IsKeyOf key p = checksum_key (identity_of p) ≡ key

-- the key is that of the package's checksum, and the package has this checksum
abbrev pub HasChecksumAt : List ℕ → PackageData → List ℕ → Type 0
HasChecksumAt key p digest = IsKeyOf key p × (p.checksum ≡ Some digest)

-- the checksum of the last package that has the key and a checksum
pub record IsLastChecksum (packages : List PackageData) (key digest : List ℕ) : Type 0 where
  pub place : ℕ
  pub owner : PackageData
  pub stands : slice_get packages place ≡ Some owner
  pub has : HasChecksumAt key owner digest
  pub last : (j : ℕ) (p : PackageData) (other : List ℕ) → place < j → slice_get packages j ≡ Some p
      → ¬ HasChecksumAt key p other

-- no package has the key and a checksum
abbrev pub HasNoChecksum : List PackageData → List ℕ → Type 0
HasNoChecksum packages key = (j : ℕ) (p : PackageData) (digest : List ℕ) → slice_get packages j
    ≡ Some p → ¬ HasChecksumAt key p digest

-- some package has the key, with a checksum or without
abbrev pub IsOfPackage : List PackageData → List ℕ → Type 0
IsOfPackage packages key = (j : ℕ) × (p : PackageData) × (slice_get packages j ≡ Some p)
    × IsKeyOf key p

-- V1: at the checksum key of packages with checksums the text of the last one's checksum, and at
-- every other key the old value
abbrev pub ChecksumsAtKeys : Type 0
ChecksumsAtKeys = (m : Texts) (packages : List PackageData) (key : List ℕ)
    → ((digest : List ℕ) → IsLastChecksum packages key digest → get (metadata_of V1 m packages) key
    ≡ Some (digest_text digest))
    × (HasNoChecksum packages key → get (metadata_of V1 m packages) key ≡ get m key)

-- from V2 on: nothing at the checksum key of a package, and at every other key the old value
abbrev pub NoChecksumKeys : Type 0
NoChecksumKeys = (format : ResolveVersion) (m : Texts) (packages : List PackageData) (key : List ℕ)
    → format ≢ V1 → (IsOfPackage packages key → get (metadata_of format m packages) key ≡ None)
    × (¬ IsOfPackage packages key → get (metadata_of format m packages) key ≡ get m key)
