-- What a merge returns, by places alone: no definition here speaks of numbers of places.
use Rattle.std.specs.Prelude.{◌≡◌, ◌≢◌, ◌↔◌, ℕ, All, List, [], ◌∷◌, Option, Some, map}
use Rattle.std.specs.Prelude.{option_map}
use Rattle.std.specs.List.{AllPairs, AllZip, Contains}
use Rattle.cargo_lock_parts.specs.Identity.{PackageData}
use Rattle.cargo_lock_merge_core.specs.ByPlaces.{AreAllPlaced, HasPackagesAt, IsMovedBetween, place_in}
use Rattle.cargo_lock_merge_core.specs.ByPlaces.{places_between}
use Rattle.cargo_lock_merge_core.specs.declared.conflicts.Conflict as merging
use Rattle.cargo_lock_merge_core.specs.Commits.{Lockfiles}
use Rattle.cargo_lock_merge_core.specs.Conflicts.{conflict_of}
use Rattle.cargo_lock_merge_core.specs.Disputes.{AreInDispute, HasCommits, source_key}
use Rattle.cargo_lock_merge_core.specs.Merge.{IsConflicting, IsMatter, IsMerge, IsMovedReference}
use Rattle.cargo_lock_merge_core.specs.Merge.{MatterData, Triple}
use Rattle.cargo_lock_merge_core.specs.Merge as merge
use Rattle.cargo_lock_merge_core.specs.Placed.{PlacedData}
use Rattle.cargo_lock_merge_core.specs.Places.{IsMergeOf, Place}
use Rattle.cargo_lock_merge.specs.declared.conflict.Conflict.{Conflict}
use Rattle.cargo_lock_merge.specs.declared.conflict.Conflict.TheVariants.{AtPlace, OfSource}
use Rattle.cargo_lock_merge.specs.declared.lockfiles.LockfileMerge.{LockfileMerge}
use Rattle.cargo_lock_merge.specs.declared.lockfiles.LockfileMerge.TheVariants as lockfiles
use Rattle.cargo_lock_merge.specs.declared.moved.Moved.{Moved}
use Rattle.cargo_lock_merge.specs.declared.outcome.Outcome.{Outcome}
use Rattle.cargo_lock_merge.specs.declared.outcome.Outcome.TheVariants.{Conflicts, Merged}
use Rattle.cargo_lock_merge.specs.MergedLockfiles.{LockfileTriple, MergesTo, packages_of}
use Rattle.cargo_lock_merge.specs.Outcome.{FindsMerge}
use Rattle.cargo_lock_merge.specs.Referring.{IsReferring}

-- ---- conflicts

-- what the conflict is about: what is at the place of its packages, or its git source
abbrev pub subject_in : Lockfiles → Conflict → Option (MatterData Place)
subject_in all (AtPlace c) = option_map (conflict_of c.kind) (place_in all c)
subject_in all (OfSource c) = Some (merge.OfSource (source_key c))

-- the conflict has what the three lists have of its subject
abbrev pub HasSubjectIn : Lockfiles → Triple Place → Conflict → Type 0
HasSubjectIn all s (AtPlace c) = (p : Place) × (place_in all c ≡ Some p) × HasPackagesAt all s p c
HasSubjectIn all s (OfSource c) = HasCommits all c × AreInDispute c

-- The three lists have no merge. The sides are in conflict about exactly this, at least one thing,
-- and each is there once.
pub record AreConflictsByPlaces (all : Lockfiles) (cs : List Conflict) : Type 0 where
  pub placed : Triple Place
  pub lists : AreAllPlaced all placed
  pub none : (m : List (PlacedData Place)) → ¬ IsMerge placed m
  pub exact : (c : MatterData Place) → Contains (map (subject_in all) cs) (Some c)
      ↔ (IsConflicting c × IsMatter placed c)
  pub once : AllPairs (λ a b. a ≢ b) (map (subject_in all) cs)
  pub each : All (HasSubjectIn all placed) cs
  pub some : cs ≢ []

-- ---- moved references

-- the places of the packages of a moved reference
abbrev pub moved_places : Lockfiles → Moved → Place × Place
moved_places all r = places_between all r.found

-- the moved reference is one of the merge m
abbrev pub IsMovedIn : Triple Place → List (PlacedData Place) → Moved → Type 0
IsMovedIn s m r = (x : PlacedData Place) × (y : PlacedData Place) × IsMovedBetween s m x y r.found

-- The packages are the merge of the three lists. Its moved references are exactly these, each once.
pub record AreMovedByPlaces (all : Lockfiles) (packages : List PackageData) (rs : List Moved) : Type 0
  where
    pub merge : IsMergeOf all packages
    pub each : All (IsMovedIn merge.placed merge.merged) rs
    pub all_there : (x y : PlacedData Place) → IsMovedReference merge.placed merge.merged x y
        → Contains (map (moved_places all) rs) (x.place, y.place)
    pub once : AllPairs (λ a b. a ≢ b) (map (moved_places all) rs)

-- ---- notices

-- what there is to report of a place, in some conflict or in none
abbrev pub subject_of_place : Lockfiles → merging.Conflict → Option (MatterData Place)
subject_of_place all c = option_map (conflict_of c.kind) (place_in all c)

-- it has what the three lists have at its place
abbrev pub HasSubjectAt : Lockfiles → Triple Place → merging.Conflict → Type 0
HasSubjectAt all s c = (p : Place) × (place_in all c ≡ Some p) × HasPackagesAt all s p c

-- These are exactly what there is to report of places where the sides are in no conflict, each once.
pub record AreNoticesByPlaces (all : Lockfiles) (ns : List merging.Conflict) : Type 0 where
  pub placed : Triple Place
  pub lists : AreAllPlaced all placed
  pub exact : (c : MatterData Place) → Contains (map (subject_of_place all) ns) (Some c)
      ↔ ((¬ IsConflicting c) × IsMatter placed c)
  pub once : AllPairs (λ a b. a ≢ b) (map (subject_of_place all) ns)
  pub each : All (HasSubjectAt all placed) ns

-- ---- what a merge returns

-- the merge of three lists of packages and what it reports, or the conflicts
abbrev pub FindsByPlaces : Lockfiles → Outcome → Type 0
FindsByPlaces all (Merged packages remarks) = AreMovedByPlaces all packages.items remarks.moved.items
    × AreNoticesByPlaces all remarks.notices.items
FindsByPlaces all (Conflicts conflicts) = AreConflictsByPlaces all conflicts.items

-- these are the conflicts of the packages, or there are none, and the packages have a merge
abbrev pub AreConflictsIfAny : Lockfiles → List Conflict → Type 0
AreConflictsIfAny all [] = (packages : List PackageData) × IsMergeOf all packages
AreConflictsIfAny all (c ∷ cs) = AreConflictsByPlaces all (c ∷ cs)

-- the same of the merge of lockfiles, whose references have commits or are without
abbrev pub MergesByPlaces : LockfileTriple → LockfileMerge → Type 0
MergesByPlaces s (lockfiles.Merged lockfile text remarks) = (packages : List PackageData)
    × AreMovedByPlaces (packages_of s) packages remarks.moved.items
    × AreNoticesByPlaces (packages_of s) remarks.notices.items
    × AllZip IsReferring packages lockfile.packages
MergesByPlaces s (lockfiles.InConflict conflicts) =
    AreConflictsIfAny (packages_of s) conflicts.packages.items

-- ---- laws

-- what `merge` finds is so by places
abbrev pub OutcomesAreByPlaces : Type 0
OutcomesAreByPlaces = (all : Lockfiles) (o : Outcome) → FindsMerge all o → FindsByPlaces all o

-- what `merge_lockfiles` returns is so by places
abbrev pub MergesAreByPlaces : Type 0
MergesAreByPlaces = (comments : List ℕ) (s : LockfileTriple) (m : LockfileMerge)
    → MergesTo comments s m → MergesByPlaces s m
