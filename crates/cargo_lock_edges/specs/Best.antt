-- Which packages match a dependency best.
use Rattle.std.specs.Prelude.{ℕ, ◌≤◌, List}
use Rattle.cargo_lock_parts.specs.Identity.{Identity, PackageData}
use Rattle.cargo_lock_graph.specs.Targets.{MatchesAt}

-- the package at the place matches the dependency with this rank, and none matches with a lesser
-- one
pub record IsBestMatch (packages : List PackageData) (d : Identity) (rank place : ℕ) : Type 0 where
  pub fits : MatchesAt packages d place rank
  pub least : (k other : ℕ) → MatchesAt packages d k other → rank ≤ other

-- the package at the place is one of those that match the dependency best
abbrev pub IsOneOfBest : List PackageData → Identity → ℕ → Type 0
IsOneOfBest packages d place = (rank : ℕ) × IsBestMatch packages d rank place
