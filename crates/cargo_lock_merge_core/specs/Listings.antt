-- Two listings of the same packages at their places: a list at places is in any order, and so are
-- the dependencies of each package in it.
use Rattle.std.specs.Prelude.{List}
use Rattle.cargo_lock_parts.specs.Identity.{PackageData}
use Rattle.cargo_lock_merge_core.specs.ByPlaces.{AreAllPlaced}
use Rattle.cargo_lock_merge_core.specs.Commits.{Lockfiles}
use Rattle.cargo_lock_merge_core.specs.Laws.{exchange}
use Rattle.cargo_lock_merge_core.specs.LawsOfMerges.{HaveAlike}
use Rattle.cargo_lock_merge_core.specs.Merge.{MatterData, IsMatter, IsMerge, IsMovedReference, Triple}
use Rattle.cargo_lock_merge_core.specs.Placed.{PlacedData}
use Rattle.cargo_lock_merge_core.specs.Places.{IsMergeOf, Place}

-- two listings of the same lists have the same merges
abbrev pub ListingsHaveOneMerge : Type 0
ListingsHaveOneMerge = (all : Lockfiles) (s t : Triple Place) (m : List (PlacedData Place))
    → AreAllPlaced all s → AreAllPlaced all t → IsMerge s m → IsMerge t m

-- they have the same conflicts
abbrev pub ListingsHaveOneConflict : Type 0
ListingsHaveOneConflict = (all : Lockfiles) (s t : Triple Place) (c : MatterData Place)
    → AreAllPlaced all s → AreAllPlaced all t → IsMatter s c → IsMatter t c

-- they have the same moved references of a merge
abbrev pub ListingsHaveOneMoved : Type 0
ListingsHaveOneMoved = (all : Lockfiles) (s t : Triple Place) (m : List (PlacedData Place))
    (x y : PlacedData Place) → AreAllPlaced all s → AreAllPlaced all t → IsMovedReference s m x y
    → IsMovedReference t m x y

-- ---- the same of lists of packages

-- two merges of the same lists have the same packages
abbrev pub MergeOfListsIsUnique : Type 0
MergeOfListsIsUnique = (all : Lockfiles) (m n : List PackageData) (h : IsMergeOf all m)
    (k : IsMergeOf all n) → HaveAlike h.merged k.merged

-- the sides of lists exchanged
abbrev pub exchanged_sides : Lockfiles → Lockfiles
exchanged_sides all = record { base = all.base; ours = all.theirs; theirs = all.ours }

-- the sides may be exchanged
abbrev pub MergeOfListsIsSymmetric : Type 0
MergeOfListsIsSymmetric = (all : Lockfiles) (m : List PackageData) → IsMergeOf all m
    → IsMergeOf (exchanged_sides all) m

-- the sides of a listing may be exchanged
abbrev pub ListingsAreSymmetric : Type 0
ListingsAreSymmetric = (all : Lockfiles) (s : Triple Place) → AreAllPlaced all s
    → AreAllPlaced (exchanged_sides all) (exchange s)
