-- Packages at places that are numbers, as the program has them.
use Rattle.std.specs.Prelude.{◌≡◌, ℕ, List, Option, Some, None, map, option_map}
use Rattle.std.specs.List.Sorted.{IsStrictlyIncreasing}
use Rattle.cargo_lock_merge_core.specs.declared.placed.Placed.{Placed}
use Rattle.cargo_lock_merge_core.specs.declared.rows.Row.{Row}
use Rattle.cargo_lock_merge_core.specs.declared.rule3.Side.{Side}
use Rattle.cargo_lock_merge_core.specs.declared.rule3.Side.TheVariants.{Ours, Theirs}
use Rattle.cargo_lock_merge_core.specs.Choices.{IsChecksum, IsChecksumConflict, IsChosen, if_same}
use Rattle.cargo_lock_merge_core.specs.Choices.{replacement_if}
use Rattle.cargo_lock_merge_core.specs.Commits.{Lockfiles}
use Rattle.cargo_lock_merge_core.specs.Placed.{IsAt, PlacedData}
use Rattle.cargo_lock_merge_core.specs.Rule3.{IsDisputed, IsMergedValue}

-- the package without what only the program has
abbrev pub placed_data : Placed → PlacedData ℕ
placed_data p = record {
  place = p.place;
  content = p.package.now;
  dependencies = p.dependencies.now;
  replacement = p.replacement;
}

-- the same of a package that may be absent
abbrev pub data_if : Option Placed → Option (PlacedData ℕ)
data_if = option_map placed_data

-- the packages of a list
abbrev pub all_data : List Placed → List (PlacedData ℕ)
all_data = map placed_data

-- the place of a package
abbrev pub place_number : PlacedData ℕ → ℕ
place_number x = x.place

-- the places of a list
abbrev pub place_numbers : List (PlacedData ℕ) → List ℕ
place_numbers = map place_number

-- the packages are in the order of their places, at each at most one
abbrev pub IsInOrder : List (PlacedData ℕ) → Type 0
IsInOrder xs = IsStrictlyIncreasing (place_numbers xs)

-- the dependencies of the package, if there is one, are in order
abbrev pub HasAscending : Option (PlacedData ℕ) → Type 0
HasAscending None = Unit {0}
HasAscending (Some x) = IsStrictlyIncreasing x.dependencies

-- the row has what the three lists have at its place
pub record IsRowOf (b o t : List (PlacedData ℕ)) (r : Row) : Type 0 where
  pub base : IsAt b r.place (data_if r.base)
  pub ours : IsAt o r.place (data_if r.ours)
  pub theirs : IsAt t r.place (data_if r.theirs)

-- the package of a side
abbrev pub side_of : {X : Type 0} → X → X → Side → X
side_of o t Ours = o
side_of o t Theirs = t

-- the package of this side is chosen, or none is
abbrev pub IsChoice : Lockfiles → Option (PlacedData ℕ) → Option (PlacedData ℕ)
    → Option (PlacedData ℕ) → Option Side → Type 0
IsChoice all b o t (Some side) = (x : PlacedData ℕ) × (side_of o t side ≡ Some x)
    × IsChosen all b o t x
IsChoice all b o t None = (x : PlacedData ℕ) → ¬ IsChosen all b o t x

-- a value of the chosen x is that of this side, or the sides are in conflict about it; the base has
-- the old one
abbrev pub IsValueChoice : {X : Type 0} → (PlacedData ℕ → X) → X → Option (PlacedData ℕ)
    → Option (PlacedData ℕ) → PlacedData ℕ → Option Side → Type 0
IsValueChoice f old o t x (Some side) = (y : PlacedData ℕ) × (side_of o t side ≡ Some y)
    × IsMergedValue old (option_map f (if_same x o)) (option_map f (if_same x t)) (f y)
IsValueChoice f old o t x None = IsDisputed old (option_map f (if_same x o)) (option_map f
    (if_same x t))

-- the checksum of the chosen x is this, or the sides are in conflict about it
abbrev pub IsChecksumChoice : Option (PlacedData ℕ) → Option (PlacedData ℕ) → Option (PlacedData ℕ)
    → PlacedData ℕ → Option (Option (List ℕ)) → Type 0
IsChecksumChoice b o t x (Some c) = IsChecksum b o t x c
IsChecksumChoice b o t x None = IsChecksumConflict b o t x

-- the place of the replacement of the chosen x is that of this side, or the sides are in conflict
-- about it
abbrev pub IsReplacementChoice : Option (PlacedData ℕ) → Option (PlacedData ℕ)
    → Option (PlacedData ℕ) → PlacedData ℕ → Option Side → Type 0
IsReplacementChoice b o t x = IsValueChoice (λ y. y.replacement) (replacement_if
    (if_same x b)) o t x
