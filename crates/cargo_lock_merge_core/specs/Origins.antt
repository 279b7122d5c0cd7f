-- Where what a merge has comes from, and what it is where a side did not change.
use Rattle.std.specs.Prelude.{◌≡◌, ◌⊎◌, ◌↔◌, ℕ, List, Some}
use Rattle.std.specs.List.{Contains}
use Rattle.cargo_lock_parts.specs.Identity.{PackageData}
use Rattle.cargo_lock_merge_core.specs.ByPlaces.{AreAllPlaced}
use Rattle.cargo_lock_merge_core.specs.Commits.{HasOneCommitEach, Lockfiles}
use Rattle.cargo_lock_merge_core.specs.Laws.{HaveOneAtEach}
use Rattle.cargo_lock_merge_core.specs.LawsOfMerges.{AgreeAtCommits, HaveAlike, IsSoundByPlaces}
use Rattle.cargo_lock_merge_core.specs.LawsOfMerges.{KeepChecksums}
use Rattle.cargo_lock_merge_core.specs.Merge.{IsMerge, Triple}
use Rattle.cargo_lock_merge_core.specs.Placed.{HasAt, PlacedData, key}
use Rattle.cargo_lock_merge_core.specs.Places.{IsMergeOf, Place}

-- ---- checksums

-- the list has a package with the key of x and with this checksum at its place
abbrev pub ListsChecksum : List (PlacedData Place) → PlacedData Place → List ℕ → Type 0
ListsChecksum xs x c = (y : PlacedData Place) × HasAt xs x.place y × (key y ≡ key x)
    × (y.content.checksum ≡ Some c)

-- one of the three lists has
abbrev pub IsListedChecksum : Triple Place → PlacedData Place → List ℕ → Type 0
IsListedChecksum s x c = ListsChecksum s.base x c
    ⊎ (ListsChecksum s.ours x c ⊎ ListsChecksum s.theirs x c)

-- A merged package has a checksum exactly if one of the three lists has it for the same identity. So
-- no merged checksum differs from one of a list, and none that a list has is lost.
abbrev pub ChecksumsAreListed : Type 0
ChecksumsAreListed = (s : Triple Place) (m : List (PlacedData Place)) (x : PlacedData Place)
    (c : List ℕ) → HaveOneAtEach s → IsMerge s m → Contains m x
    → (x.content.checksum ≡ Some c) ↔ IsListedChecksum s x c

-- ---- lists of packages of which one is another

-- the base and the two sides
abbrev pub lists : List PackageData → List PackageData → List PackageData → Lockfiles
lists b o t = record { base = b; ours = o; theirs = t }

-- Where theirs is the base, a merge has the packages of ours, if these are sound and keep the
-- checksums of the base, and no commit has two versions of a package.
abbrev pub MergeOfListsWithBase : Type 0
MergeOfListsWithBase = (b x m : List PackageData) (s : Triple Place) (h : IsMergeOf (lists b x b) m)
    → AreAllPlaced (lists b x b) s → HasOneCommitEach b → IsSoundByPlaces s.ours
    → AgreeAtCommits s.base s.ours → KeepChecksums s.base s.ours → HaveAlike h.merged s.ours

-- where both sides are equal, a merge has their packages, if these are sound and keep the checksums
-- of the base
abbrev pub MergeOfListsWithItself : Type 0
MergeOfListsWithItself = (b x m : List PackageData) (s : Triple Place)
    (h : IsMergeOf (lists b x x) m) → AreAllPlaced (lists b x x) s → HasOneCommitEach b
    → IsSoundByPlaces s.ours → KeepChecksums s.base s.ours → HaveAlike h.merged s.ours
