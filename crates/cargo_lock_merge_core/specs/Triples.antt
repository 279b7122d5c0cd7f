-- The three lists of a merge at places that are numbers, as the program has them.
use Rattle.std.specs.Prelude.{◌≡◌, ◌+◌, ℕ, List, length}
use Rattle.cargo_lock_parts.specs.Identity.{PackageData}
use Rattle.cargo_lock_merge_core.specs.declared.triple.Role.{Role}
use Rattle.cargo_lock_merge_core.specs.declared.triple.Role.TheVariants.{Base, Ours, Theirs}
use Rattle.cargo_lock_merge_core.specs.declared.triple.Sides.{Sides}
use Rattle.cargo_lock_merge_core.specs.declared.triple.Stop.{Stop}
use Rattle.cargo_lock_merge_core.specs.declared.triple.Stop.TheVariants.{Memory, Refused}
use Rattle.cargo_lock_merge_core.specs.Assembled.{AreSides}
use Rattle.cargo_lock_merge_core.specs.Commits.{Lockfiles}
use Rattle.cargo_lock_merge_core.specs.Lists.{BeginsAt, all_numbered}
use Rattle.cargo_lock_merge_core.specs.Merge.{Triple}
use Rattle.cargo_lock_merge_core.specs.Places.{Place}
use Rattle.cargo_lock_merge_core.specs.Refusals.{IsRefusal}

-- the packages of the three lists
abbrev pub triple_in : Sides → Triple ℕ
triple_in s = record {
  base = all_numbered s.base.items;
  ours = all_numbered s.ours.items;
  theirs = all_numbered s.theirs.items;
}

-- these are the three lists by some numbers of their places
abbrev pub AreSidesOf : Lockfiles → Triple ℕ → Type 0
AreSidesOf all s = (places : List Place) × AreSides all places s

-- the places of the base come first, then ours, then theirs
pub record BeginAt (all : Lockfiles) (places : List Place) : Type 0 where
  pub base : BeginsAt all places all.base 0
  pub ours : BeginsAt all places all.ours (length all.base)
  pub theirs : BeginsAt all places all.theirs (length all.base + length all.ours)

-- the packages of the lockfile with this part
abbrev pub list_of : Lockfiles → Role → List PackageData
list_of all Base = all.base
list_of all Ours = all.ours
list_of all Theirs = all.theirs

-- memory ran out, or the lockfile with this part is refused
abbrev pub IsStop : Lockfiles → Stop → Type 0
IsStop all Memory = Unit {0}
IsStop all (Refused role refusal) = IsRefusal all (list_of all role) refusal

-- the same of one list, with this part
abbrev pub IsSideStop : List Place → ℕ → List PackageData → Role → Stop → Type 0
IsSideStop places offset packages role Memory = Unit {0}
IsSideStop places offset packages role (Refused other refusal) = (other ≡ role)
    × ((all : Lockfiles) → BeginsAt all places packages offset → IsRefusal all packages refusal)
