-- Conflicts and moved references by the places of their packages, without the numbers of places.
use Rattle.std.specs.Prelude.{◌≡◌, ◌≢◌, List, Option, Some, None}
use Rattle.std.specs.List.{Contains}
use Rattle.cargo_lock_parts.specs.Identity.{PackageData, identity_of}
use Rattle.cargo_lock_merge_core.specs.declared.conflicts.Conflict.{Conflict}
use Rattle.cargo_lock_merge_core.specs.declared.moved.Moved.{Moved}
use Rattle.cargo_lock_merge_core.specs.declared.moved.Reference.{Reference}
use Rattle.cargo_lock_merge_core.specs.Commits.{Lockfiles}
use Rattle.cargo_lock_merge_core.specs.Conflicts.{IsChosenIf, IsSourceOfEither, now_if}
use Rattle.cargo_lock_merge_core.specs.Merge.{HaveAt, IsMovedReference, Triple, lockfiles_of}
use Rattle.cargo_lock_merge_core.specs.Placed.{HasAt, PlacedData}
use Rattle.cargo_lock_merge_core.specs.Places.{ArePlaced, Place, merge_place}

-- the base and the two sides at their places
pub record AreAllPlaced (all : Lockfiles) (s : Triple Place) : Type 0 where
  pub base : ArePlaced all all.base s.base
  pub ours : ArePlaced all all.ours s.ours
  pub theirs : ArePlaced all all.theirs s.theirs

-- ---- conflicts about what is at a place

-- the place of the first package, or of the second if there is no first
abbrev pub place_of_either : Lockfiles → Option PackageData → Option PackageData → Option Place
place_of_either all (Some o) t = Some (merge_place all o)
place_of_either all None (Some t) = Some (merge_place all t)
place_of_either all None None = None

-- the place of a conflict: that of our package, or of theirs if we have none
abbrev pub place_in : Lockfiles → Conflict → Option Place
place_in all c = place_of_either all (now_if c.ours) (now_if c.theirs)

-- the package that a list has at a place, or it has none there
abbrev pub IsPackageIn : Lockfiles → List PackageData → Place → Option PackageData → Type 0
IsPackageIn all packages p None = (q : PackageData) → Contains packages q → merge_place all q ≢ p
IsPackageIn all packages p (Some q) = Contains packages q × (merge_place all q ≡ p)

-- the package that a merge chooses of what the three lists have at a place, or it chooses none
pub record HasChoice (s : Triple Place) (p : Place) (c : Option PackageData) : Type 0 where
  pub base : Option (PlacedData Place)
  pub ours : Option (PlacedData Place)
  pub theirs : Option (PlacedData Place)
  pub at : HaveAt s p base ours theirs
  pub chosen : IsChosenIf (lockfiles_of s) base ours theirs c

-- The conflict has the packages that the three lists have at the place, the one that is chosen of
-- them, and the git source of the sides' packages, with its commits.
pub record HasPackagesAt (all : Lockfiles) (s : Triple Place) (p : Place) (c : Conflict) : Type 0
  where
    pub base : IsPackageIn all all.base p (now_if c.base)
    pub ours : IsPackageIn all all.ours p (now_if c.ours)
    pub theirs : IsPackageIn all all.theirs p (now_if c.theirs)
    pub chosen : HasChoice s p (now_if c.chosen)
    pub source : IsSourceOfEither all (now_if c.ours) (now_if c.theirs) c.source

-- ---- moved references

-- the reference that a list has from the package at one place to that at another, or it has none
abbrev pub IsReferenceBetween : List (PlacedData Place) → Place → Place → Option Reference → Type 0
IsReferenceBetween xs p q None = (x y : PlacedData Place) → HasAt xs p x → HasAt xs q y
    → ¬ Contains x.dependencies q
IsReferenceBetween xs p q (Some r) = (x : PlacedData Place) × (y : PlacedData Place)
    × HasAt xs p x × HasAt xs q y × Contains x.dependencies q
    × (r.from.now ≡ x.content) × (r.to.now ≡ y.content)

-- The moved reference is that of the merged package x to the merged package y: it has packages with
-- their identities, and the references that the sides have between their places.
pub record IsMovedBetween (s : Triple Place) (m : List (PlacedData Place)) (x y : PlacedData Place)
    (r : Moved) : Type 0 where
  pub moved : IsMovedReference s m x y
  pub from : identity_of r.merged.from.now ≡ identity_of x.content
  pub to : identity_of r.merged.to.now ≡ identity_of y.content
  pub ours : IsReferenceBetween s.ours x.place y.place r.ours
  pub theirs : IsReferenceBetween s.theirs x.place y.place r.theirs

-- the places of its packages
abbrev pub places_between : Lockfiles → Moved → Place × Place
places_between all r = (merge_place all r.merged.from.now, merge_place all r.merged.to.now)
