-- The packages of a list at places that are numbers, as the program finds them.
use Rattle.std.specs.Prelude.{◌≡◌, ◌↔◌, ◌+◌, ◌<◌, ◌≤◌, ℕ, List, [], Option, Some, None, length}
use Rattle.std.specs.Prelude.{map, slice_get, unwrap_or}
use Rattle.std.specs.List.{All, Contains}
use Rattle.std.specs.List.Sorted.{IsStrictlyIncreasing}
use Rattle.cargo_lock_parts.specs.Identity.{Identity, PackageData}
use Rattle.cargo_lock_graph.specs.Targets.{IsLastBelow}
use Rattle.cargo_lock_merge_core.specs.declared.numbered.Numbered.{Numbered}
use Rattle.cargo_lock_merge_core.specs.declared.numbered.Replaced.{Replaced}
use Rattle.cargo_lock_merge_core.specs.declared.numbered.Replaced.TheVariants.{At, Lost, Not}
use Rattle.cargo_lock_merge_core.specs.Commits.{Lockfiles}
use Rattle.cargo_lock_merge_core.specs.Linked.{AreStatedOnce, IsStatedAt, IsTargetOf, RefersTo}
use Rattle.cargo_lock_merge_core.specs.Numbered.{IsInOrder}
use Rattle.cargo_lock_merge_core.specs.Placed.{PlacedData}
use Rattle.cargo_lock_merge_core.specs.Places.{ArePlaced, Place, merge_place}
use Rattle.cargo_lock_merge_core.specs.Renaming.{Has, rename_all}

-- a place at which no package is
abbrev pub no_place : Place
no_place = record { name = []; version = None; source = None }

-- the place with a number: that at this index
abbrev pub place_at : List Place → ℕ → Place
place_at places n = unwrap_or (slice_get places n) no_place

-- n is the last index of the place
abbrev pub IsLastAt : List Place → Place → ℕ → Type 0
IsLastAt places p n = IsLastBelow (λ k. slice_get places k ≡ Some p) (length places) (Some n)

-- n is the number of the place at the index k
pub record IsNumberAt (places : List Place) (k n : ℕ) : Type 0 where
  pub place : Place
  pub here : slice_get places k ≡ Some place
  pub last : IsLastAt places place n

-- n is the number of its place
abbrev pub IsNumber : List Place → ℕ → Type 0
IsNumber places n = IsLastAt places (place_at places n) n

-- from this index on are the places of the packages
pub record BeginsAt (all : Lockfiles) (places : List Place) (packages : List PackageData)
    (offset : ℕ) : Type 0 where
  pub fits : offset + length packages ≤ length places
  pub here : (k : ℕ) (p : PackageData) → slice_get packages k ≡ Some p
      → slice_get places (offset + k) ≡ Some (merge_place all p)

-- for each number of a place the index of the package there, if there is one, of so many packages
pub record AreSlots (places : List Place) (offset count : ℕ) (slots : List (Option ℕ)) : Type 0
  where
    pub long : length slots ≡ length places
    pub each : (n i : ℕ) → (slice_get slots n ≡ Some (Some i))
        ↔ ((i < count) × IsNumberAt places (offset + i) n)
    pub all_there : (i : ℕ) → i < count → (n : ℕ) × IsNumberAt places (offset + i) n

-- the package without what only the program has
abbrev pub numbered_data : Numbered → PlacedData ℕ
numbered_data x = record {
  place = x.place;
  content = x.«package».now;
  dependencies = x.dependencies.items;
  replacement = x.replacement;
}

-- the packages of a list
abbrev pub all_numbered : List Numbered → List (PlacedData ℕ)
all_numbered = map numbered_data

-- the place of the replacement, which a package states
abbrev pub HasReplacement : List Place → ℕ → List PackageData → Option Identity → Option ℕ → Type 0
HasReplacement places offset packages None place = place ≡ None
HasReplacement places offset packages (Some i) None = ⊥
HasReplacement places offset packages (Some i) (Some n) = (k : ℕ) × IsStatedAt packages i k
    × IsNumberAt places (offset + k) n

-- what replaces a package, which states this, if anything
abbrev pub IsReplaced : List Place → ℕ → List PackageData → Option Identity → Replaced → Type 0
IsReplaced places offset packages replace Not = replace ≡ None
IsReplaced places offset packages replace (At n) = HasReplacement places offset packages replace
    (Some n)
IsReplaced places offset packages replace Lost = (i : Identity) × (replace ≡ Some i)
    × ((k : ℕ) → ¬ IsStatedAt packages i k)

-- the place of what replaces a package
abbrev pub replaced_place : Replaced → Option ℕ
replaced_place Not = None
replaced_place (At n) = Some n
replaced_place Lost = None

-- x is the package at an index, with the numbers of its place and of those that it refers to
pub record IsNumberedAt (places : List Place) (offset : ℕ) (packages : List PackageData) (at : ℕ)
    (x : PlacedData ℕ) : Type 0 where
  pub place : IsNumberAt places (offset + at) x.place
  pub content : slice_get packages at ≡ Some x.content
  pub ascending : IsStrictlyIncreasing x.dependencies
  pub found : (i : Identity) → Contains x.content.dependencies i → (k : ℕ) × RefersTo packages i k
  pub dependencies : AreStatedOnce packages → (n : ℕ) → Contains x.dependencies n
      ↔ ((k : ℕ) × IsTargetOf packages x.content k × IsNumberAt places (offset + k) n)
  pub replacement : HasReplacement places offset packages x.content.replace x.replacement

-- These are the packages of a list in the order of their places, each with the places of its
-- dependencies in order. Each number is that of a place.
pub record AreNumbered (all : Lockfiles) (places : List Place) (packages : List PackageData)
    (xs : List (PlacedData ℕ)) : Type 0 where
  pub order : IsInOrder xs
  pub each : All (λ x. IsStrictlyIncreasing x.dependencies) xs
  pub numbers : (n : ℕ) → Has xs n → IsNumber places n
  pub placed : ArePlaced all packages (rename_all (place_at places) xs)

-- the same where the places of the packages begin at an index
abbrev pub AreNumberedFrom : List Place → ℕ → List PackageData → List (PlacedData ℕ) → Type 0
AreNumberedFrom places offset packages xs = (all : Lockfiles)
    → BeginsAt all places packages offset → AreNumbered all places packages xs
