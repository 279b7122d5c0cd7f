-- Dependencies of packages, by the place of the package and their own among its dependencies.
use Rattle.std.specs.Prelude.{◌≡◌, ◌<◌, ◌⊎◌, ◌↔◌, ℕ, suc, List, Some, length, slice_get}
use Rattle.std.specs.List.{AllAdjacentBelow, AllPairs, Contains}
use Rattle.std.specs.declared.cmp.Ordering.TheVariants.{Greater, Less}
use Rattle.cargo_lock_parts.specs.Identity.{Identity, PackageData, identity_key}
use Rattle.cargo_lock_graph.specs.Targets.{HoldsOf}
use Rattle.cargo_lock_parts.specs.IdentityOrder.{identity_cmp}
use Rattle.cargo_lock_order.specs.Order.{dependency_order}

-- P holds of the dependency at the place
abbrev pub HoldsOfDependency : (Identity → Type 0) → List Identity → ℕ → Type 0
HoldsOfDependency P dependencies at = (d : Identity) × (slice_get dependencies at ≡ Some d) × P d

-- P holds of the dependencies of the package at the place `place`, and of the place `at` of these
abbrev pub HoldsAt : (List Identity → ℕ → Type 0) → List PackageData → ℕ → ℕ → Type 0
HoldsAt P packages place at = HoldsOf (λ p. P p.dependencies at) packages place

-- the dependency is of an earlier package, or is an earlier one of the same package
abbrev pub IsEarlierDependency : ℕ × ℕ → ℕ × ℕ → Type 0
IsEarlierDependency x y = (x.0 < y.0) ⊎ ((x.0 ≡ y.0) × (x.1 < y.1))

-- the dependencies for which P holds, in order, each as the place of its package and its own place
-- among the package's dependencies
pub record AreDependencies (P : ℕ → ℕ → Type 0) (places : List (ℕ × ℕ)) : Type 0 where
  pub ascending : AllPairs IsEarlierDependency places
  pub told : (place at : ℕ) → Contains places (place, at) ↔ P place at

-- those of them that are before a place of a package and a place among its dependencies
pub record AreDependenciesBefore (P : ℕ → ℕ → Type 0) (place at : ℕ)
    (places : List (ℕ × ℕ)) : Type 0 where
  pub ascending : AllPairs IsEarlierDependency places
  pub told : (k j : ℕ) → Contains places (k, j) ↔ (IsEarlierDependency (k, j) (place, at) × P k j)

-- the dependency at the place comes after the one at the next place in Cargo's order
abbrev pub IsAfterNext : List Identity → ℕ → Type 0
IsAfterNext dependencies at = HoldsOfDependency
    (λ d. HoldsOfDependency (λ next. dependency_order d next ≡ Greater) dependencies (suc at))
    dependencies at

-- the package at the place `place` lists the dependency at the place `at` before the next one,
-- though it comes after that one in Cargo's order
abbrev pub IsDependencyMisplacedAt : List PackageData → ℕ → ℕ → Type 0
IsDependencyMisplacedAt = HoldsAt IsAfterNext

-- the dependencies are the same: they have one name, one version and sources of one key
abbrev pub IsSameDependency : Identity → Identity → Type 0
IsSameDependency d other = identity_key other ≡ identity_key d

-- the dependency at the place is also at an earlier place
abbrev pub IsListedBefore : List Identity → ℕ → Type 0
IsListedBefore dependencies at = HoldsOfDependency
    (λ d. (j : ℕ) × (j < at) × HoldsOfDependency (IsSameDependency d) dependencies j)
    dependencies at

-- the package at the place `place` lists the dependency at the place `at` a second time
abbrev pub IsRepeatedAt : List PackageData → ℕ → ℕ → Type 0
IsRepeatedAt = HoldsAt IsListedBefore

-- each dependency is less than the next one, so none of them is listed twice
abbrev pub DoAscend : List Identity → Type 0
DoAscend dependencies =
    AllAdjacentBelow (λ d next. identity_cmp d next ≡ Less) dependencies (length dependencies)
