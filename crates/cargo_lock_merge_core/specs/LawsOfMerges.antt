-- Further laws of the merge: it is unique, sound and stable, and a side without changes leaves the
-- other.
use Rattle.std.specs.Prelude.{◌≡◌, ◌≢◌, ◌⊎◌, ◌↔◌, ℕ, false, List, Some, None, option_map}
use Rattle.std.specs.List.{Contains}
use Rattle.cargo_lock_parts.specs.Identity.{PackageData}
use Rattle.lists.specs.Chains.{IsReachedFrom}
use Rattle.cargo_lock_merge_core.specs.Choices.{IsOfGit}
use Rattle.cargo_lock_merge_core.specs.Commits.{HasOneCommitEach, Lockfiles, commit_in}
use Rattle.cargo_lock_edges.specs.Nearest.{key_without_commit}
use Rattle.cargo_lock_merge_core.specs.Laws.{HaveOneAtEach}
use Rattle.cargo_lock_merge_core.specs.Merge.{IsConflicting, IsMatter, IsMerge, IsMovedReference}
use Rattle.cargo_lock_merge_core.specs.Merge.{MatterData}
use Rattle.cargo_lock_merge_core.specs.Merge.{IsReachedInMerge, Triple}
use Rattle.cargo_lock_merge_core.specs.Placed.{HasAt, HasMember, HasOneAtEach, PlacedData, contents_of}
use Rattle.cargo_lock_merge_core.specs.Placed.{key}
use Rattle.cargo_lock_merge_core.specs.Places.{ArePlaced, IsMergeOf, Place, has_several}
use Rattle.cargo_lock_merge_core.specs.Plans.{IsClosed}

-- ---- a merge is unique

-- two packages are alike: their dependencies are compared as sets
pub record AreAlikeInMerge (x y : PlacedData Place) : Type 0 where
  pub place : x.place ≡ y.place
  pub identity : key x ≡ key y
  pub checksum : x.content.checksum ≡ y.content.checksum
  pub dependencies : (d : Place) → Contains x.dependencies d ↔ Contains y.dependencies d
  pub replacement : x.replacement ≡ y.replacement

-- for each package of either list the other has one that is alike
pub record HaveAlike (xs ys : List (PlacedData Place)) : Type 0 where
  pub to : (x : PlacedData Place) → Contains xs x
      → (y : PlacedData Place) × Contains ys y × AreAlikeInMerge x y
  pub from : (y : PlacedData Place) → Contains ys y
      → (x : PlacedData Place) × Contains xs x × AreAlikeInMerge x y

-- two merges of the same lists have the same packages
abbrev pub MergeIsUnique : Type 0
MergeIsUnique = (s : Triple Place) (m n : List (PlacedData Place)) → HaveOneAtEach s
    → IsMerge s m → IsMerge s n → HaveAlike m n

-- ---- a merge is sound

-- a lockfile by places: at each place at most one package, each git source at one commit, and each
-- package at a place that has its source
pub record IsLockfile (xs : List (PlacedData Place)) : Type 0 where
  pub one : HasOneAtEach xs
  pub commits : HasOneCommitEach (contents_of xs)
  pub sources : (x : PlacedData Place) → Contains xs x
      → x.place.source ≡ option_map key_without_commit x.content.source

-- the packages of a list at their places are a lockfile, where each git source is at one commit
abbrev pub PlacedAreLockfile : Type 0
PlacedAreLockfile = (all : Lockfiles) (packages : List PackageData)
    (xs : List (PlacedData Place)) → HasOneCommitEach packages → ArePlaced all packages xs
    → IsLockfile xs

-- the package at p depends on d, or d is its replacement
abbrev pub RefersToPlace : List (PlacedData Place) → Place → Place → Type 0
RefersToPlace xs p d = (x : PlacedData Place) × HasAt xs p x
    × (Contains x.dependencies d ⊎ (x.replacement ≡ Some d))

-- there is no orphan: a chain of dependencies and replacements leads to each package from a member
-- of the workspace
abbrev pub HasNoOrphan : List (PlacedData Place) → Type 0
HasNoOrphan xs = (x : PlacedData Place) → Contains xs x
    → IsReachedFrom (HasMember xs) (RefersToPlace xs) x.place

-- a sound lockfile: each dependency and each replacement has its package, and there is no orphan
pub record IsSoundByPlaces (xs : List (PlacedData Place)) : Type 0 where
  pub lockfile : IsLockfile xs
  pub closed : IsClosed xs
  pub needed : HasNoOrphan xs

-- the three lists are lockfiles
pub record AreLockfiles (s : Triple Place) : Type 0 where
  pub base : IsLockfile s.base
  pub ours : IsLockfile s.ours
  pub theirs : IsLockfile s.theirs

-- a merge of lockfiles is a sound lockfile
abbrev pub MergeIsSound : Type 0
MergeIsSound = (s : Triple Place) (m : List (PlacedData Place)) → AreLockfiles s → IsMerge s m
    → IsSoundByPlaces m

-- in each of the three lists each git source is at one commit
pub record HaveOneCommitEach (all : Lockfiles) : Type 0 where
  pub base : HasOneCommitEach all.base
  pub ours : HasOneCommitEach all.ours
  pub theirs : HasOneCommitEach all.theirs

-- a merged list of packages has each git source at one commit, and is sound at its places
abbrev pub MergeOfListsIsSound : Type 0
MergeOfListsIsSound = (all : Lockfiles) (m : List PackageData) (h : IsMergeOf all m)
    → HaveOneCommitEach all → HasOneCommitEach m × IsSoundByPlaces h.merged

-- where there is a merge, the sides are in conflict about nothing, commits of git sources included
abbrev pub MergeExcludesConflicts : Type 0
MergeExcludesConflicts = (s : Triple Place) (m : List (PlacedData Place))
    (c : MatterData Place) → IsConflicting c → AreLockfiles s → IsMerge s m → ¬ IsMatter s c

-- ---- what both sides have

-- at a place that is reached, an identity that both sides have there is that of the merged package
abbrev pub IdentityOfBothStays : Type 0
IdentityOfBothStays = (s : Triple Place) (m : List (PlacedData Place)) (p : Place)
    (y z : PlacedData Place) → HaveOneAtEach s → IsMerge s m → IsReachedInMerge s p
    → HasAt s.ours p y → HasAt s.theirs p z → key y ≡ key z
    → (x : PlacedData Place) × HasAt m p x × (key x ≡ key y)

-- ---- references that did not move

-- the side has packages with the identities of x and of y at their places, and the dependency of
-- the one on the other
pub record HasSameReference (side : List (PlacedData Place)) (x y : PlacedData Place) : Type 0 where
  pub from : PlacedData Place
  pub from_at : HasAt side x.place from
  pub same_from : key from ≡ key x
  pub to : PlacedData Place
  pub to_at : HasAt side y.place to
  pub same_to : key to ≡ key y
  pub depends : Contains from.dependencies y.place

-- a dependency between merged packages with sources that is no moved reference is, identity to
-- identity, one of a side
abbrev pub UnmovedAreOfSides : Type 0
UnmovedAreOfSides = (s : Triple Place) (m : List (PlacedData Place)) (x y : PlacedData Place)
    → HaveOneAtEach s → ¬ IsMovedReference s m x y → Contains m x → Contains m y
    → Contains x.dependencies y.place → x.content.source ≢ None → y.content.source ≢ None
    → HasSameReference s.ours x y ⊎ HasSameReference s.theirs x y

-- ---- the only merge

-- x is the merge: it is one, any other has the same packages, and there is no conflict
pub record IsTheMerge (s : Triple Place) (x : List (PlacedData Place)) : Type 0 where
  pub merge : IsMerge s x
  pub only : (m : List (PlacedData Place)) → IsMerge s m → HaveAlike m x
  pub agreed : (c : MatterData Place) → IsConflicting c → ¬ IsMatter s c

-- Packages of a git source that the two lists have at one place and at one commit are of one
-- identity.
abbrev pub AgreeAtCommits : List (PlacedData Place) → List (PlacedData Place) → Type 0
AgreeAtCommits xs ys = (p : Place) (x y : PlacedData Place) → HasAt xs p x → HasAt ys p y
    → IsOfGit x.content → commit_in x.content.source ≡ commit_in y.content.source → key x ≡ key y

-- the base and the two sides
abbrev pub triple : List (PlacedData Place) → List (PlacedData Place) → List (PlacedData Place)
    → Triple Place
triple b o t = record { base = b; ours = o; theirs = t }

-- Of two lists the second keeps the checksums of the first: where both have a package of one
-- identity, and the first has a checksum of it, the second has the same.
abbrev pub KeepChecksums : List (PlacedData Place) → List (PlacedData Place) → Type 0
KeepChecksums xs ys = (p : Place) (x y : PlacedData Place) → HasAt xs p x → HasAt ys p y
    → key x ≡ key y → (c : List ℕ) → x.content.checksum ≡ Some c → y.content.checksum ≡ Some c

-- where one side is the base, a commit has one version of a package, and the other side keeps the
-- checksums, the merge is that side
abbrev pub MergeWithBase : Type 0
MergeWithBase = (b x : List (PlacedData Place)) → IsLockfile b → IsSoundByPlaces x
    → AgreeAtCommits b x → KeepChecksums b x
    → IsTheMerge (triple b x b) x × IsTheMerge (triple b b x) x

-- It is so only then: where the base has a package at the same commit in another version, both are
-- at the merged commit, and the sides are in conflict. A checksum that is gone is in the merge.
abbrev pub MergeWithBaseAgrees : Type 0
MergeWithBaseAgrees = (b x : List (PlacedData Place)) → IsLockfile b → IsLockfile x
    → IsMerge (triple b x b) x → AgreeAtCommits b x × KeepChecksums b x

-- where the sides are equal, and keep the checksums of the base, the merge is each of them
abbrev pub MergeWithItself : Type 0
MergeWithItself = (b x : List (PlacedData Place)) → IsLockfile b → IsSoundByPlaces x
    → KeepChecksums b x → IsTheMerge (triple b x x) x

-- ---- a merge is stable

-- merged again with either side, a merge stays as it is
abbrev pub MergeIsStable : Type 0
MergeIsStable = (s : Triple Place) (m : List (PlacedData Place)) → AreLockfiles s → IsMerge s m
    → IsTheMerge (triple s.base m s.theirs) m × IsTheMerge (triple s.base s.ours m) m

-- no list has two packages of one name without source
abbrev pub HaveNoneTwice : Lockfiles → Type 0
HaveNoneTwice all = (name : List ℕ) → has_several all name ≡ false

-- The same of lists of packages, where none has two packages of one name without source: then the
-- second merge has the places of the first.
abbrev pub MergeOfListsIsStable : Type 0
MergeOfListsIsStable = (all : Lockfiles) (m : List PackageData) → IsMergeOf all m
    → HaveOneCommitEach all → HaveNoneTwice all
    → IsMergeOf (record all { ours = m }) m × IsMergeOf (record all { theirs = m }) m
