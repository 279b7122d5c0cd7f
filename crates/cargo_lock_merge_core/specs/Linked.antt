-- To which packages of a list identities refer: those of dependencies and of replacements.
use Rattle.std.specs.Prelude.{◌≡◌, ◌⊎◌, ◌↔◌, ℕ, List, Some, slice_get}
use Rattle.std.specs.List.{Contains}
use Rattle.cargo_lock_parts.specs.Identity.{Identity, PackageData}
use Rattle.cargo_lock_graph.specs.Targets.{IsTarget}
use Rattle.cargo_lock_edges.specs.Nearest.{IsOfOwnWordsAt}

-- the identity states the package at the index k, which has the name and the version of the
-- identity, and its source but for the commit
abbrev pub IsStatedAt : List PackageData → Identity → ℕ → Type 0
IsStatedAt packages i k = IsOfOwnWordsAt packages i k

-- An identity refers to the package that it states. Where it states none, it refers to the one to
-- which it resolves, whose reference to a repository may be another.
abbrev pub RefersTo : List PackageData → Identity → ℕ → Type 0
RefersTo packages i k = IsStatedAt packages i k
    ⊎ (((j : ℕ) → ¬ IsStatedAt packages i j) × IsTarget packages i k)

-- ---- as the program has them

-- some package is the one to which the dependency resolves
abbrev pub IsResolved : List PackageData → Identity → Type 0
IsResolved packages d = (place : ℕ) × IsTarget packages d place

-- each identity is stated by one package at most
abbrev pub AreStatedOnce : List PackageData → Type 0
AreStatedOnce packages = (i : Identity) (j k : ℕ) → IsStatedAt packages i j
    → IsStatedAt packages i k → j ≡ k

-- a dependency of the package refers to the package at the index k
abbrev pub IsTargetOf : List PackageData → PackageData → ℕ → Type 0
IsTargetOf packages p k = (i : Identity) × Contains p.dependencies i × RefersTo packages i k

-- the indices to which the dependencies of the package p refer
pub record AreReferredTo (packages : List PackageData) (p : PackageData) (targets : List ℕ)
    : Type 0 where
  pub found : (i : Identity) → Contains p.dependencies i → (k : ℕ) × RefersTo packages i k
  pub are : AreStatedOnce packages
      → (k : ℕ) → Contains targets k ↔ IsTargetOf packages p k

-- the same of the package at an index
abbrev pub AreTargetsAt : List PackageData → ℕ → List ℕ → Type 0
AreTargetsAt packages at targets = (p : PackageData) → slice_get packages at ≡ Some p
    → AreReferredTo packages p targets
