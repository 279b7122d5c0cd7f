-- No dependency is twice in a merged package.
use Rattle.std.specs.Prelude.{◌≡◌, ◌≢◌, ℕ, List, option_map}
use Rattle.std.specs.List.{AllPairs, AllZip}
use Rattle.cargo_lock_parts.specs.Identity.{Identity, PackageData}
use Rattle.cargo_lock_merge_core.specs.Assembled.{IsIdentityAt}
use Rattle.cargo_lock_edges.specs.Nearest.{key_without_commit}
use Rattle.cargo_lock_merge_core.specs.Placed.{PlacedData}

-- the identities have one name, one version and one source but for the commit: they refer to one
-- package
pub record ReferToOne (i j : Identity) : Type 0 where
  pub name : i.name ≡ j.name
  pub version : i.version ≡ j.version
  pub source : option_map key_without_commit i.source ≡ option_map key_without_commit j.source

-- no two dependencies of the package refer to one package
abbrev pub HasEachOnce : PackageData → Type 0
HasEachOnce p = AllPairs (λ i j. ¬ ReferToOne i j) p.dependencies

-- ---- as the program has them

-- these are the identities at some numbers of places, no two at one
abbrev pub AreApart : List (PlacedData ℕ) → List Identity → Type 0
AreApart m is = (ns : List ℕ) × AllPairs (λ a b. a ≢ b) ns × AllZip (IsIdentityAt m) ns is

-- the same of the dependencies of a package
abbrev pub DependsApart : List (PlacedData ℕ) → PackageData → Type 0
DependsApart m p = AreApart m p.dependencies
