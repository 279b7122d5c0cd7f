-- How packages are like a dependency, as the search for the nearest one asks: they match it with a
-- rank, or with its commit and its reference.
use Rattle.std.specs.Prelude.{◌≤◌, ℕ, List}
use Rattle.std.specs.List.{Contains}
use Rattle.cargo_lock_parts.specs.Identity.{Identity, PackageData}
use Rattle.cargo_lock_graph.specs.Targets.{MatchesAt}
use Rattle.cargo_lock_edges.specs.declared.likeness.Likeness.{Likeness}
use Rattle.cargo_lock_edges.specs.declared.likeness.Likeness.TheVariants.{Pinned, Rank}
use Rattle.cargo_lock_edges.specs.Groups.{Grouping, IsPinnedMatch, group_places}

-- the package at the place is like the dependency
abbrev pub IsLikeAt : List PackageData → Identity → Likeness → ℕ → Type 0
IsLikeAt packages d (Rank rank) place = MatchesAt packages d place rank
IsLikeAt packages d Pinned place = IsPinnedMatch packages d place

-- it is the last one that is
pub record IsLastLike (packages : List PackageData) (d : Identity) (likeness : Likeness)
    (place : ℕ) : Type 0 where
  pub like : IsLikeAt packages d likeness place
  pub last : (k : ℕ) → IsLikeAt packages d likeness k → k ≤ place

-- each package that is like the dependency is in the group with the number
abbrev pub HasAllLike : Grouping → Identity → Likeness → ℕ → Type 0
HasAllLike groups d likeness number = (k : ℕ) → IsLikeAt groups.packages d likeness k
    → Contains (group_places groups number) k
