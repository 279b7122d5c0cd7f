-- Checksums in the metadata that are of no package.
use Rattle.std.specs.Prelude.{◌≡◌, ◌≢◌, ◌↔◌, ◌&&◌, ℕ, Bool, not, true, List, codes, map, Some}
use Rattle.std.specs.FinMap.{entries, get}
use Rattle.std.specs.List.{Contains, filter}
use Rattle.cargo_lock_parts.specs.Identity.{PackageData}
use Rattle.cargo_lock_references.specs.declared.version.ResolveVersion.TheVariants.{V2}
use Rattle.cargo_lock_references.specs.Metadata.{is_checksum, metadata_of}
use Rattle.cargo_lock_references.specs.Records.{Texts}
use Rattle.cargo_lock_references.specs.ResolutionSearch.{same_text}
use Rattle.cargo_lock_references.specs.WrittenMetadata.{IsOfPackage}

-- what Cargo writes in V1 for a package without a checksum
abbrev pub no_checksum : List ℕ
no_checksum = codes "<none>"

-- the pair is of a checksum: its key begins with `checksum `, and its value is not `<none>`
abbrev pub is_of_checksum : List ℕ × List ℕ → Bool
is_of_checksum pair = is_checksum pair.0 && not (same_text pair.1 no_checksum)

-- the keys of checksums that remain after those of the packages are removed
abbrev pub stale_keys : Texts → List PackageData → List (List ℕ)
stale_keys m packages = map (λ e. e.0) (filter is_of_checksum (entries (metadata_of V2 m packages)))

-- ---- law

-- the metadata has the key, with a value other than `<none>`, and the key begins with `checksum `
-- and is of none of these packages
pub record IsStale (m : Texts) (packages : List PackageData) (key : List ℕ) : Type 0 where
  pub checksum : is_checksum key ≡ true
  pub value : List ℕ
  pub stands : get m key ≡ Some value
  pub told : value ≢ no_checksum
  pub unowned : ¬ IsOfPackage packages key

-- the stale keys are exactly these
abbrev pub StaleKeysAreExact : Type 0
StaleKeysAreExact = (m : Texts) (packages : List PackageData) (key : List ℕ)
    → Contains (stale_keys m packages) key ↔ IsStale m packages key
