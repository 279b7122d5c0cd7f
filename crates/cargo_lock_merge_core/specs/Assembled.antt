-- The packages of a merge by numbers of places, as a lockfile has them: with identities in place of
-- numbers.
use Rattle.std.specs.Prelude.{◌≡◌, ◌↔◌, ℕ, List, Option, Some, None}
use Rattle.std.specs.List.{AllZip, Contains}
use Rattle.std.specs.List.Sorted.{IsPermutation}
use Rattle.cargo_lock_parts.specs.Identity.{Identity, PackageData, identity_of}
use Rattle.cargo_lock_merge_core.specs.Commits.{HasOneCommitEach, Lockfiles}
use Rattle.cargo_lock_merge_core.specs.Lists.{AreNumbered}
use Rattle.cargo_lock_merge_core.specs.Merge.{IsMerge, Triple}
use Rattle.cargo_lock_merge_core.specs.Placed.{HasAt, PlacedData}
use Rattle.cargo_lock_merge_core.specs.Places.{IsMergeOf, Place}

-- the three lists by numbers of places, each with each git source at one commit
pub record AreSides (all : Lockfiles) (places : List Place) (s : Triple ℕ) : Type 0 where
  pub base : AreNumbered all places all.base s.base
  pub ours : AreNumbered all places all.ours s.ours
  pub theirs : AreNumbered all places all.theirs s.theirs
  pub base_commits : HasOneCommitEach all.base
  pub our_commits : HasOneCommitEach all.ours
  pub their_commits : HasOneCommitEach all.theirs

-- the identity is that of the package at the place
abbrev pub IsIdentityAt : List (PlacedData ℕ) → ℕ → Identity → Type 0
IsIdentityAt m n i = (y : PlacedData ℕ) × HasAt m n y × (i ≡ identity_of y.content)

-- the same of a place that may be absent, and where no package may be
abbrev pub IsIdentityAtIf : List (PlacedData ℕ) → Option ℕ → Option Identity → Type 0
IsIdentityAtIf m None i = i ≡ None
IsIdentityAtIf m (Some n) None = (y : PlacedData ℕ) → ¬ HasAt m n y
IsIdentityAtIf m (Some n) (Some i) = IsIdentityAt m n i

-- the package with the identities of what it refers to in place of their numbers
pub record IsAssembled (m : List (PlacedData ℕ)) (x : PlacedData ℕ) (p : PackageData) : Type 0 where
  pub identity : identity_of p ≡ identity_of x.content
  pub checksum : p.checksum ≡ x.content.checksum
  pub dependencies : (i : Identity) → Contains p.dependencies i
      ↔ ((n : ℕ) × Contains x.dependencies n × IsIdentityAt m n i)
  pub replacement : IsIdentityAtIf m x.replacement p.replace

-- the packages of a merge, in some order
abbrev pub AreAssembled : List (PlacedData ℕ) → List PackageData → Type 0
AreAssembled m ps = (xs : List (PlacedData ℕ)) × IsPermutation m xs × AllZip (IsAssembled m) xs ps

-- the packages that are assembled of a merge by numbers are the merge of the lockfiles
abbrev pub AssembledAreMerge : Type 0
AssembledAreMerge = (all : Lockfiles) (places : List Place) (s : Triple ℕ) (m : List (PlacedData ℕ))
    (ps : List PackageData) → AreSides all places s → IsMerge s m → AreAssembled m ps
    → IsMergeOf all ps
