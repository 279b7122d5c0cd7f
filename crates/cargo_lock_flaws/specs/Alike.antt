-- Packages whose names are the same name to crates.io.
-- The rule is that of the function `canon_crate_name` in the database of crates.io.
use Rattle.std.specs.Prelude.{◌≡◌, ◌≢◌, ◌<◌, ◌↔◌, ◌==◌, ℕ, true, if◌then◌else◌, List, map, Option, None, Some, option_map}
use Rattle.std.specs.Char.{to_ascii_lowercase}
use Rattle.std.specs.List.{AllPairs, Contains}
use Rattle.cargo_lock_parts.specs.Ascii.{hyphen, underscore}
use Rattle.cargo_lock_parts.specs.Identity.{PackageData}
use Rattle.cargo_lock_parts.specs.SourceShown.{is_default_registry}
use Rattle.cargo_lock_graph.specs.Targets.{HoldsOf}

-- a byte of a name as crates.io compares it: in lower case, and `_` for `-`
abbrev pub folded_byte : ℕ → ℕ
folded_byte b = if b == hyphen then underscore else to_ascii_lowercase b

-- a name as crates.io compares it
abbrev pub folded : List ℕ → List ℕ
folded name = map folded_byte name

-- the package is from crates.io
abbrev pub IsFromCratesIo : PackageData → Type 0
IsFromCratesIo p = option_map is_default_registry p.source ≡ Some true

-- two packages from crates.io with different names that are the same name to crates.io
pub record AreAlikeOnCratesIo (p q : PackageData) : Type 0 where
  pub from : IsFromCratesIo p
  pub other_from : IsFromCratesIo q
  pub same : folded p.name ≡ folded q.name
  pub differ : p.name ≢ q.name

-- the packages at the two places are alike
abbrev pub AreAlikeAt : List PackageData → ℕ → ℕ → Type 0
AreAlikeAt packages i j = HoldsOf (λ q. HoldsOf (λ p. AreAlikeOnCratesIo p q) packages i) packages j

-- the first of the places below a bound at which P holds, or none if it holds at none of them
abbrev pub IsFirstBelow : (ℕ → Type 0) → ℕ → Option ℕ → Type 0
IsFirstBelow P bound None = (k : ℕ) → k < bound → ¬ P k
IsFirstBelow P bound (Some place) = (place < bound) × P place × ((k : ℕ) → k < place → ¬ P k)

-- the first earlier place of a package that is alike with the one at the second place
abbrev pub IsFirstAlike : List PackageData → ℕ → ℕ → Type 0
IsFirstAlike packages i j = IsFirstBelow (λ k. AreAlikeAt packages k j) j (Some i)

-- the pairs of the first place of a package alike and a place, for each place that has one, in the
-- order of the second places
pub record ArePairsAlike (packages : List PackageData) (pairs : List (ℕ × ℕ)) : Type 0 where
  pub ascending : AllPairs (λ x y. x.1 < y.1) pairs
  pub told : (i j : ℕ) → Contains pairs (i, j) ↔ IsFirstAlike packages i j
