-- What a merge of lockfiles promises, as one statement. `merge_lockfiles` returns what `MergesTo`
-- says, and each field is a law of that, or of the merge of the three lists of packages.
use Rattle.std.specs.Prelude.{◌≡◌, ℕ, List, Some, string_bytes}
use Rattle.std.specs.List.{AllZip}
use Rattle.cargo_lock_parts.specs.Identity.{PackageData}
use Rattle.cargo_lock_merge_core.specs.Choices.{AreOfGit}
use Rattle.cargo_lock_merge_core.specs.Commits.{HasOneCommitEach}
use Rattle.cargo_lock_merge_core.specs.Laws.{ConflictsAreSymmetric, DependenciesAreOfSides}
use Rattle.cargo_lock_merge_core.specs.Laws.{HaveOneAtEach, PackagesAreOfSides}
use Rattle.cargo_lock_merge_core.specs.LawsOfMerges.{IsSoundByPlaces, MergeExcludesConflicts}
use Rattle.cargo_lock_merge_core.specs.Listings.{MergeOfListsIsSymmetric, MergeOfListsIsUnique}
use Rattle.cargo_lock_merge_core.specs.Merge.{IsMerge, Triple}
use Rattle.cargo_lock_merge_core.specs.Origins.{ChecksumsAreListed, MergeOfListsWithBase}
use Rattle.cargo_lock_merge_core.specs.Origins.{MergeOfListsWithItself}
use Rattle.cargo_lock_merge_core.specs.Placed.{HasAt, PlacedData, key}
use Rattle.cargo_lock_merge_core.specs.Places.{IsMergeOf, Place}
use Rattle.cargo_lock_merge.specs.declared.lockfiles.LockfileMerge.{LockfileMerge}
use Rattle.cargo_lock_merge.specs.declared.lockfiles.LockfileMerge.TheVariants.{InConflict, Merged}
use Rattle.cargo_lock_merge.specs.ByPlaces.{MergesAreByPlaces}
use Rattle.cargo_lock_merge.specs.MergedLockfiles.{LockfileTriple, MergesTo, TextIsOf, packages_of}
use Rattle.cargo_lock_merge.specs.Referring.{IsReferring}

-- Where theirs has at a place what the base has there, by name, version and source, a merge has what
-- ours has. Of git sources the merged commit decides. The sides may be exchanged.
abbrev pub OneSideIsMerged : Type 0
OneSideIsMerged = (s : Triple Place) (m : List (PlacedData Place)) (p : Place)
    (b o t x : PlacedData Place) → HaveOneAtEach s → IsMerge s m → HasAt s.base p b
    → HasAt s.ours p o → HasAt s.theirs p t → HasAt m p x → ¬ AreOfGit (Some o) (Some t)
    → key t ≡ key b → key x ≡ key o

-- The packages of a merge are those of the merged lists, with their references with commits or
-- without. At their places they are sound: at each place at most one package, each dependency and
-- each replacement has its package, and no package is an orphan. Each git source is at one commit.
abbrev pub IsSoundIfMerged : LockfileTriple → LockfileMerge → Type 0
IsSoundIfMerged s (Merged lockfile text remarks) = (packages : List PackageData)
    × (h : IsMergeOf (packages_of s) packages) × AllZip IsReferring packages lockfile.packages
    × HasOneCommitEach packages × IsSoundByPlaces h.merged
IsSoundIfMerged s (InConflict conflicts) = Unit {0}

-- the same of each merge
abbrev pub MergesAreSound : Type 0
MergesAreSound = (comments : List ℕ) (s : LockfileTriple) (m : LockfileMerge)
    → MergesTo comments s m → IsSoundIfMerged s m

-- the text of a merge reads back as it
abbrev pub ReadsBackIfMerged : LockfileMerge → Type 0
ReadsBackIfMerged (Merged lockfile text remarks) = TextIsOf lockfile (string_bytes text)
ReadsBackIfMerged (InConflict conflicts) = Unit {0}

-- the same of each merge
abbrev pub MergesReadBack : Type 0
MergesReadBack = (comments : List ℕ) (s : LockfileTriple) (m : LockfileMerge)
    → MergesTo comments s m → ReadsBackIfMerged m

-- the promises of a merge in one
pub record MergeHeadline : Type 0 where
  -- what one side alone changed is merged: at each place, and where a side is the base
  pub one_side : OneSideIsMerged
  pub unchanged_side : MergeOfListsWithBase
  -- what both sides have is the merge
  pub equal_sides : MergeOfListsWithItself
  -- there is at most one merge, and the sides may be exchanged
  pub only : MergeOfListsIsUnique
  pub exchanged : MergeOfListsIsSymmetric
  pub conflicts_exchanged : ConflictsAreSymmetric
  -- all in a merge is of a side: packages, dependencies, and checksums, which may be of the base too
  pub packages : PackagesAreOfSides
  pub dependencies : DependenciesAreOfSides
  pub checksums : ChecksumsAreListed
  -- a merge is sound, and its text reads back as it
  pub sound : MergesAreSound
  pub read_back : MergesReadBack
  -- conflicts are only where there is no merge: where there is one the sides are in conflict about
  -- nothing, and conflicts of packages are exactly those at their places
  pub agreed : MergeExcludesConflicts
  pub conflicts : MergesAreByPlaces
