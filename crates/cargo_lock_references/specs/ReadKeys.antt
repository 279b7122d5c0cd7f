-- The checksums in the metadata, by name and version, with each key read once.
use Rattle.std.specs.Prelude.{◌≡◌, ℕ, List, Option, option_map}
use Rattle.std.specs.BTreeMap.{BTreeMap, get}
use Rattle.std.specs.List.{find}
use Rattle.semver.specs.Parse.{Parts}
use Rattle.cargo_lock_parts.specs.declared.package.checksum.Checksum.{Checksum}
use Rattle.cargo_lock_parts.specs.Checksum.{digest_in, digest_of}
use Rattle.cargo_lock_references.specs.Reference.{Reference, two_words}
use Rattle.cargo_lock_references.specs.ReferenceOrder.{reference_cmp}
use Rattle.cargo_lock_references.specs.Metadata.{reads_as}

-- the value of the first of the pairs whose key reads as this name and this version, as a checksum,
-- if there is such a pair
abbrev pub first_value : List (List ℕ × List ℕ) → List ℕ → Parts → Option (Option (List ℕ))
first_value pairs name version = option_map
    (λ e. digest_in e.1) (find (λ e. reads_as name version e.0) pairs)

-- what the map has for a name and a version
abbrev pub value_at : BTreeMap Reference (Option Checksum) → List ℕ → Parts
    → Option (Option (List ℕ))
value_at m name version = option_map (option_map digest_of)
    (get reference_cmp m (two_words name version))

-- the map has, for each name and version, the first value among the pairs
abbrev pub AreFirstValues : List (List ℕ × List ℕ) → BTreeMap Reference (Option Checksum) → Type 0
AreFirstValues pairs m = (name : List ℕ) (version : Parts) → value_at m name version
    ≡ first_value pairs name version
