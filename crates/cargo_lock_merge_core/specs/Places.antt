-- The places of packages in lockfiles: what Cargo has at most one package for.
use Rattle.std.specs.Prelude.{◌≡◌, ◌≢◌, ◌==◌, ◌&&◌, ◌∷◌, ℕ, Bool, List, [], Option, Some, None}
use Rattle.std.specs.Prelude.{bytes_eq, count_by, if◌then◌else◌, is_none, nat_lt}
use Rattle.std.specs.Prelude.{option_map, slice_get}
use Rattle.std.specs.List.{AllPairs, Contains, list_any}
use Rattle.semver.specs.Parse.{Parts}
use Rattle.cargo_lock_parts.specs.Identity.{Identity, PackageData}
use Rattle.cargo_lock_parts.specs.PartialIdentity.{PartialKey}
use Rattle.cargo_lock_parts.specs.Source.{Source, is_git}
use Rattle.cargo_lock_edges.specs.Nearest.{key_without_commit}
use Rattle.cargo_lock_merge_core.specs.Commits.{Lockfiles}
use Rattle.cargo_lock_merge_core.specs.Linked.{IsStatedAt, RefersTo}
use Rattle.cargo_lock_merge_core.specs.Merge.{IsMerge, Triple}
use Rattle.cargo_lock_merge_core.specs.Placed.{HasOneAtEach, PlacedData}

-- a place: a name, perhaps what of the version distinguishes places, and perhaps the source without
-- its commit
abbrev pub Place : Type 0
Place = PartialKey

-- the numbers of a version with those after the first that is not zero set to zero
abbrev pub first_of : ℕ → ℕ → ℕ → ℕ × ℕ × ℕ
first_of major minor patch = if major == 0
    then (if minor == 0 then (0, 0, patch) else (0, minor, 0))
    else (major, 0, 0)

-- The line of a version, as the least version in it. Of one crate of one registry Cargo has at most
-- one version of a line.
abbrev pub least_of_line : Parts → Parts
least_of_line v = let n = first_of v.0 v.1 v.2 in (n.0, n.1, n.2, [], [])

-- the package has this name and no source
abbrev pub is_member_named : List ℕ → PackageData → Bool
is_member_named name p = is_none p.source && bytes_eq name p.name

-- one of the three lists has two packages of the name without source
abbrev pub has_several : Lockfiles → List ℕ → Bool
has_several all name = list_any (λ packages. nat_lt 1 (count_by (is_member_named name) packages))
    (all.base ∷ all.ours ∷ all.theirs ∷ [])

-- What of the version distinguishes places: with a git source nothing, with another source the
-- line, without a source nothing, or all of it where one of the lists has several packages of the
-- name.
abbrev pub version_in : Bool → Parts → Option Source → Option Parts
version_in several version None = if several then Some version else None
version_in several version (Some s) = if is_git s.kind then None else Some (least_of_line version)

-- the place of a package
abbrev pub merge_place : Lockfiles → PackageData → Place
merge_place all p = record {
  name = p.name;
  version = version_in (has_several all p.name) p.version p.source;
  source = option_map key_without_commit p.source;
}

-- the place of the package of the list to which the identity refers
abbrev pub IsPlaceIn : Lockfiles → List PackageData → Identity → Place → Type 0
IsPlaceIn all packages i p = (k : ℕ) × (q : PackageData) × RefersTo packages i k
    × (slice_get packages k ≡ Some q) × (p ≡ merge_place all q)

-- the place of the package that a replacement states
abbrev pub IsReplacementIn : Lockfiles → List PackageData → Option Identity → Option Place → Type 0
IsReplacementIn all packages None p = p ≡ None
IsReplacementIn all packages (Some i) None = ⊥
IsReplacementIn all packages (Some i) (Some p) = (k : ℕ) × (q : PackageData)
    × IsStatedAt packages i k × (slice_get packages k ≡ Some q) × (p ≡ merge_place all q)

-- x is the package at its place, with the places of its dependencies and of its replacement, each
-- of which has its package
pub record IsPlaced (all : Lockfiles) (packages : List PackageData) (p : PackageData)
    (x : PlacedData Place) : Type 0 where
  pub place : x.place ≡ merge_place all p
  pub content : x.content ≡ p
  pub found : (i : Identity) → Contains p.dependencies i
      → (d : Place) × IsPlaceIn all packages i d × Contains x.dependencies d
  pub dependencies : (d : Place) → Contains x.dependencies d
      → (i : Identity) × Contains p.dependencies i × IsPlaceIn all packages i d
  pub replacement : IsReplacementIn all packages p.replace x.replacement

-- These are the packages of a list at their places, in any order. No two are at one place, and each
-- package of the list is there.
pub record ArePlaced (all : Lockfiles) (packages : List PackageData)
    (xs : List (PlacedData Place)) : Type 0 where
  pub distinct : AllPairs (λ p q. merge_place all p ≢ merge_place all q) packages
  pub one : HasOneAtEach xs
  pub each : (x : PlacedData Place) → Contains xs x
      → (p : PackageData) × Contains packages p × IsPlaced all packages p x
  pub all_there : (p : PackageData) → Contains packages p
      → (x : PlacedData Place) × Contains xs x × IsPlaced all packages p x

-- The packages m are the merge of two sides over a base: they are so at their places.
pub record IsMergeOf (all : Lockfiles) (m : List PackageData) : Type 0 where
  pub placed : Triple Place
  pub merged : List (PlacedData Place)
  pub base : ArePlaced all all.base placed.base
  pub ours : ArePlaced all all.ours placed.ours
  pub theirs : ArePlaced all all.theirs placed.theirs
  pub packages : ArePlaced all m merged
  pub merge : IsMerge placed merged
