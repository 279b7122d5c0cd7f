-- Where dependencies lead in this project's own commands.
--
-- A dependency leads to the package that is nearest to it. Where that one is replaced, it leads to
-- what is nearest to the replacement, as Cargo builds that one in its place.
use Rattle.std.specs.Prelude.{◌≡◌, ◌⊎◌, ℕ, List, Option, Some, None}
use Rattle.cargo_lock_parts.specs.Identity.{Identity, PackageData}
use Rattle.cargo_lock_graph.specs.Targets.{HoldsOf, IsLost}
use Rattle.cargo_lock_edges.specs.Nearest.{IsNearestPackage}

-- The package at the second place stands for that at the first one, which this replaces, if anything.
-- A package whose replacement no package fits stands for itself.
abbrev pub IsInItsPlace : List PackageData → Option Identity → ℕ → ℕ → Type 0
IsInItsPlace packages None near place = near ≡ place
IsInItsPlace packages (Some replacement) near place = IsNearestPackage packages replacement place
    ⊎ (IsLost packages replacement × (near ≡ place))

-- the dependency leads to the place: the package there stands for the nearest one
pub record LeadsToPackage (packages : List PackageData) (d : Identity) (place : ℕ) : Type 0 where
  pub near : ℕ
  pub nearest : IsNearestPackage packages d near
  pub stands : HoldsOf (λ p. IsInItsPlace packages p.replace near place) packages near
