-- Which of the packages that match a dependency is nearest to it.
--
-- A dependency names its package by words: a name, a version and a source, mostly without the commit
-- of a repository. The package of just these words is nearest. Where none of them matches, it is the
-- package to which the dependency resolves in a tree. So of two packages of one repository that are at
-- one commit by two references each is nearest to its own dependencies, as for Cargo.
use Rattle.std.specs.Prelude.{◌≡◌, ◌⊎◌, ◌≤◌, ℕ, List, None, option_map}
use Rattle.cargo_lock_parts.specs.Identity.{HasNameAndVersion, Identity, PackageData}
use Rattle.cargo_lock_parts.specs.Source.{Source}
use Rattle.cargo_lock_parts.specs.SourceKey.{Key, key_of}
use Rattle.cargo_lock_graph.specs.Targets.{HoldsOf, IsTarget, Matches}

-- what distinguishes a source from others, without its commit
abbrev pub key_without_commit : Source → Key
key_without_commit s = record (key_of s) { precise = None }

-- the package has the name and the version of the dependency, and its source but for the commit
pub record IsOfOwnWords (d : Identity) (p : PackageData) : Type 0 where
  pub named : HasNameAndVersion d p
  pub source : option_map key_without_commit p.source ≡ option_map key_without_commit d.source

-- the package at the place is of the dependency's own words, whether or not it matches
abbrev pub IsOfOwnWordsAt : List PackageData → Identity → ℕ → Type 0
IsOfOwnWordsAt packages d place = HoldsOf (IsOfOwnWords d) packages place

-- the package at the place is of the dependency's own words, and matches it with this rank
abbrev pub IsOwnMatch : List PackageData → Identity → ℕ → ℕ → Type 0
IsOwnMatch packages d place rank =
    HoldsOf (λ p. Matches d rank p × IsOfOwnWords d p) packages place

-- the place of the package of the dependency's own words that matches it best, and of several the
-- last one
pub record IsOwnTarget (packages : List PackageData) (d : Identity) (place : ℕ) : Type 0 where
  pub rank : ℕ
  pub fits : IsOwnMatch packages d place rank
  pub least : (k other : ℕ) → IsOwnMatch packages d k other → rank ≤ other
  pub last : (k : ℕ) → IsOwnMatch packages d k rank → k ≤ place

-- no package of the dependency's own words matches it
abbrev pub HasNoOwn : List PackageData → Identity → Type 0
HasNoOwn packages d = (place rank : ℕ) → ¬ IsOwnMatch packages d place rank

-- the place of the package that is nearest to the dependency
abbrev pub IsNearestPackage : List PackageData → Identity → ℕ → Type 0
IsNearestPackage packages d place = IsOwnTarget packages d place
    ⊎ (HasNoOwn packages d × IsTarget packages d place)

-- it is that to which the dependency resolves in a tree too
abbrev pub IsNearestTarget : List PackageData → Identity → ℕ → Type 0
IsNearestTarget packages d place = IsNearestPackage packages d place × IsTarget packages d place
