-- The merge of two sides over a base, by places.
use Rattle.std.specs.Prelude.{◌≡◌, ◌≢◌, ◌⊎◌, ◌↔◌, List, Option, Some, None}
use Rattle.std.specs.List.{Contains}
use Rattle.cargo_lock_parts.specs.Identity.{identity_of}
use Rattle.cargo_lock_parts.specs.SourceKey.{Key}
use Rattle.lists.specs.Chains.{IsReachedFrom}
use Rattle.cargo_lock_merge_core.specs.Choices.{HasLostChecksum, HasTwoNewVersions, IsChecksum}
use Rattle.cargo_lock_merge_core.specs.Choices.{IsChecksumConflict, IsChosen, IsDependency}
use Rattle.cargo_lock_merge_core.specs.Choices.{IsDependencyOf, IsOfSide, IsPackageConflict}
use Rattle.cargo_lock_merge_core.specs.Choices.{IsReplacement, IsReplacementConflict}
use Rattle.cargo_lock_merge_core.specs.Commits.{IsSourceConflict, Lockfiles, git_in}
use Rattle.cargo_lock_merge_core.specs.Placed.{AreThreeAt, HasAt, HasMember, HasOneAtEach}
use Rattle.cargo_lock_merge_core.specs.Placed.{PlacedData, contents_of, key}
use Rattle.cargo_lock_merge_core.specs.Rule3.{IsKept}

-- three lists of packages by their places: the base, ours and theirs
pub record Triple (P : Type 0) : Type 0 where
  pub base : List (PlacedData P)
  pub ours : List (PlacedData P)
  pub theirs : List (PlacedData P)

-- their packages without places
abbrev pub lockfiles_of : {P : Type 0} → Triple P → Lockfiles
lockfiles_of s = record {
  base = contents_of s.base;
  ours = contents_of s.ours;
  theirs = contents_of s.theirs;
}

-- what the three have at a place
abbrev pub HaveAt : {P : Type 0} → Triple P → P → Option (PlacedData P) → Option (PlacedData P)
    → Option (PlacedData P) → Type 0
HaveAt s = AreThreeAt s.base s.ours s.theirs

-- ---- what is reached

-- a place is a root where a member of the workspace is kept there
abbrev pub IsRootOfMerge : {P : Type 0} → Triple P → P → Type 0
IsRootOfMerge s p = IsKept (HasMember s.base p) (HasMember s.ours p) (HasMember s.theirs p)

-- the merged package at p depends on d, or d is its replacement
abbrev pub LeadsToInMerge : {P : Type 0} → Triple P → P → P → Type 0
LeadsToInMerge {P = P} s p d = (x : Option (PlacedData P)) × (y : Option (PlacedData P))
    × (z : Option (PlacedData P))
    × HaveAt s p x y z × (IsDependency (lockfiles_of s) x y z d
    ⊎ ((c : PlacedData P) × IsChosen (lockfiles_of s) x y z c × IsReplacement x y z c (Some d)))

-- the place is reached from a root
abbrev pub IsReachedInMerge : {P : Type 0} → Triple P → P → Type 0
IsReachedInMerge s = IsReachedFrom (IsRootOfMerge s) (LeadsToInMerge s)

-- ---- the merge

-- m is the merged package of what the three have at its place, where the package c of a side is
-- chosen
pub record IsMergedFrom {P : Type 0} (s : Triple P) (x y z : Option (PlacedData P))
    (c m : PlacedData P) : Type 0 where
  pub at : HaveAt s m.place x y z
  pub chosen : IsChosen (lockfiles_of s) x y z c
  pub identity : identity_of m.content ≡ identity_of c.content
  pub checksum : IsChecksum x y z c m.content.checksum
  pub dependencies : (d : P) → Contains m.dependencies d ↔ IsDependencyOf x y z c d
  pub replacement : IsReplacement x y z c m.replacement

-- m is a merged package
abbrev pub IsMergedPackage : {P : Type 0} → Triple P → PlacedData P → Type 0
IsMergedPackage {P = P} s m = (x : Option (PlacedData P)) × (y : Option (PlacedData P))
    × (z : Option (PlacedData P)) × (c : PlacedData P) × IsMergedFrom s x y z c m

-- The merged packages are those of exactly the places that are reached.
pub record IsMerge {P : Type 0} (s : Triple P) (m : List (PlacedData P)) : Type 0 where
  pub one : HasOneAtEach m
  pub holds : (p : P) → ((x : PlacedData P) × HasAt m p x) ↔ IsReachedInMerge s p
  pub each : (x : PlacedData P) → Contains m x → IsMergedPackage s x

-- ---- what there is to tell

-- what the sides can be in conflict about: the package at a place, its checksum or its replacement,
-- or the commit of a git source; and what else a merge tells of a place: that it chose between two
-- new versions of a member of the workspace, and that a side lost a checksum
pub data MatterData (P : Type 0) : Type 0 where
  OfPackage : P → MatterData P
  OfChecksum : P → MatterData P
  OfReplacement : P → MatterData P
  OfSource : Key → MatterData P
  OfVersion : P → MatterData P
  OfLostChecksum : P → MatterData P

-- the matter is a conflict, and no merge is made
abbrev pub IsConflicting : {P : Type 0} → MatterData P → Type 0
IsConflicting (OfVersion p) = ⊥
IsConflicting (OfLostChecksum p) = ⊥
IsConflicting other = Unit {0}

-- there is this to tell, at a place that is reached
abbrev pub IsMatter : {P : Type 0} → Triple P → MatterData P → Type 0
IsMatter {P = P} s (OfPackage p) = IsReachedInMerge s p
    × ((x : Option (PlacedData P)) × (y : Option (PlacedData P)) × (z : Option (PlacedData P))
    × HaveAt s p x y z × IsPackageConflict (lockfiles_of s) x y z)
IsMatter {P = P} s (OfChecksum p) = IsReachedInMerge s p
    × ((x : Option (PlacedData P)) × (y : Option (PlacedData P)) × (z : Option (PlacedData P))
    × (c : PlacedData P) × HaveAt s p x y z × IsChosen (lockfiles_of s) x y z c
    × IsChecksumConflict x y z c)
IsMatter {P = P} s (OfReplacement p) = IsReachedInMerge s p
    × ((x : Option (PlacedData P)) × (y : Option (PlacedData P)) × (z : Option (PlacedData P))
    × (c : PlacedData P) × HaveAt s p x y z × IsChosen (lockfiles_of s) x y z c
    × IsReplacementConflict x y z c)
IsMatter {P = P} s (OfSource g) = ((p : P) × IsReachedInMerge s p
    × ((x : Option (PlacedData P)) × (y : Option (PlacedData P)) × (z : Option (PlacedData P))
    × (c : PlacedData P) × HaveAt s p x y z × IsOfSide y z c × (git_in c.content.source ≡ Some g)))
    × IsSourceConflict (lockfiles_of s) g
IsMatter {P = P} s (OfVersion p) = IsReachedInMerge s p
    × ((x : Option (PlacedData P)) × (y : Option (PlacedData P)) × (z : Option (PlacedData P))
    × (c : PlacedData P) × HaveAt s p x y z × IsChosen (lockfiles_of s) x y z c
    × HasTwoNewVersions x y z)
IsMatter {P = P} s (OfLostChecksum p) = IsReachedInMerge s p
    × ((x : Option (PlacedData P)) × (y : Option (PlacedData P)) × (z : Option (PlacedData P))
    × (c : PlacedData P) × HaveAt s p x y z × IsChosen (lockfiles_of s) x y z c
    × HasLostChecksum x y z c)

-- it is not so that the sides are in conflict about nothing
abbrev pub AreInConflict : {P : Type 0} → Triple P → Type 0
AreInConflict {P = P} s = ¬ ((c : MatterData P) → IsConflicting c → ¬ IsMatter s c)

-- ---- moved references

-- a side has the merged package x, or where it is a member any at its place, with its dependency on
-- the merged package y
pub record HasReference {P : Type 0} (side : List (PlacedData P))
    (x y : PlacedData P) : Type 0 where
  pub from : PlacedData P
  pub from_at : HasAt side x.place from
  pub same : (x.content.source ≡ None) ⊎ (key from ≡ key x)
  pub depends : Contains from.dependencies y.place
  pub to : PlacedData P
  pub to_at : HasAt side y.place to
  pub target : key to ≡ key y

-- the dependency of a merged package on a merged package with a source is one that neither side has
pub record IsMovedReference {P : Type 0} (s : Triple P) (m : List (PlacedData P))
    (x y : PlacedData P) : Type 0 where
  pub from : Contains m x
  pub to : Contains m y
  pub depends : Contains x.dependencies y.place
  pub sourced : y.content.source ≢ None
  pub ours : ¬ HasReference s.ours x y
  pub theirs : ¬ HasReference s.theirs x y
