-- Which checksum the metadata of V1 has for a package, defined without a walk: the one at the least
-- key that reads as the package's name and version.
-- The rule is that of `EncodableLockfile::find_checksum` in `src/lockfile/encoding.rs` of the Rust
-- crate `cargo-lock` 11.0.1, whose map has its keys in order.
use Rattle.std.specs.Prelude.{◌≡◌, ◌≢◌, true, false, ℕ, List, Option, Some, None, is_some}
use Rattle.std.specs.Cmp.Lexicographic.{slice_cmp}
use Rattle.std.specs.FinMap.{get}
use Rattle.std.specs.Ordering.{nat_cmp}
use Rattle.std.specs.declared.cmp.Ordering.TheVariants.{Less}
use Rattle.semver.specs.Parse.{Parts}
use Rattle.cargo_lock_parts.specs.Checksum.{digest_in}
use Rattle.cargo_lock_references.specs.Metadata.{checksum_in, reads_as}
use Rattle.cargo_lock_references.specs.Records.{Texts}

-- the map has the value at a key that reads as this name and this version, and no smaller key of
-- the map reads as them
pub record IsAtLeastKey (m : Texts) (name : List ℕ) (version : Parts)
    (value : List ℕ) : Type 0 where
  pub key : List ℕ
  pub holds : get m key ≡ Some value
  pub named : reads_as name version key ≡ true
  pub least : (k : List ℕ) → is_some (get m k) ≡ true → reads_as name version k ≡ true
      → slice_cmp nat_cmp k key ≢ Less

-- no key of the map reads as this name and this version
abbrev pub HasNoKey : Texts → List ℕ → Parts → Type 0
HasNoKey m name version = (k : List ℕ) → is_some (get m k) ≡ true → reads_as name version k ≡ false

-- what is found is what the value at the least such key reads as, or nothing if there is no such
-- key
abbrev pub IsFoundAtLeastKey : Texts → List ℕ → Parts → Option (List ℕ) → Type 0
IsFoundAtLeastKey m name version found =
    ((value : List ℕ) → IsAtLeastKey m name version value → found ≡ digest_in value)
    × (HasNoKey m name version → found ≡ None)

-- the checksum is found in this way
abbrev pub ChecksumAtLeastKey : Type 0
ChecksumAtLeastKey = (m : Texts) (name : List ℕ) (version : Parts)
    → IsFoundAtLeastKey m name version (checksum_in m name version)
