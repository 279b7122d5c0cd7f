-- The dependencies that no package matches.
use Rattle.std.specs.Prelude.{ℕ, List}
use Rattle.cargo_lock_parts.specs.Identity.{PackageData}
use Rattle.cargo_lock_graph.specs.Targets.{IsLost}
use Rattle.cargo_lock_flaws.specs.Dependencies.{AreDependencies, HoldsAt, HoldsOfDependency}

-- no package matches the dependency at the place `at` of the package at the place `place`
abbrev pub IsLostAt : List PackageData → ℕ → ℕ → Type 0
IsLostAt packages = HoldsAt (HoldsOfDependency (IsLost packages)) packages

-- the lost dependencies in order, each as the place of its package and its own place among the
-- package's dependencies
abbrev pub AreLost : List PackageData → List (ℕ × ℕ) → Type 0
AreLost packages = AreDependencies (IsLostAt packages)
