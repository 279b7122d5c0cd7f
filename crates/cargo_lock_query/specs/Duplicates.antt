-- Which names are those of several packages of a list, and the packages of each.
use Rattle.std.specs.Prelude.{◌≡◌, ◌<◌, ℕ, List, All, AllPairs, length, slice_index}
use Rattle.std.specs.List.{Contains}
use Rattle.cargo_lock_parts.specs.Identity.{PackageData}
use Rattle.cargo_lock_graph.specs.Targets.{HoldsOf}
use Rattle.lists.specs.Places.{IsPlaces}

-- the package at the place has the name
abbrev pub HasNameAt : List PackageData → List ℕ → ℕ → Type 0
HasNameAt packages name place = HoldsOf (λ p. p.name ≡ name) packages place

-- the packages at two places have the name
abbrev pub IsRepeatedName : List PackageData → List ℕ → Type 0
IsRepeatedName packages name =
    (j : ℕ) × (k : ℕ) × (j < k) × HasNameAt packages name j × HasNameAt packages name k

-- the places of the packages of a name, which are two or more
pub record IsGroup (packages : List PackageData) (name : List ℕ) (places : List ℕ) : Type 0 where
  pub several : 1 < length places
  pub places_are : IsPlaces (HasNameAt packages name) (length packages) places

-- The places of the packages of each name that two or more have: a group for each such name, and
-- for no other. The groups are in the order of their first packages, so there is one for each name.
pub record AreDuplicates (packages : List PackageData) (groups : List (List ℕ)) : Type 0 where
  pub each : All (λ places. (name : List ℕ) × IsGroup packages name places) groups
  pub all : (name : List ℕ) → IsRepeatedName packages name
      → (places : List ℕ) × Contains groups places × IsGroup packages name places
  pub in_order : AllPairs (λ a b. slice_index a 0 < slice_index b 0) groups
