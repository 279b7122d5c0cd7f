-- The numbers of places, as the program has them: a place has the index of the last package at it.
use Rattle.std.specs.Prelude.{◌≡◌, ◌++◌, ℕ, List, Some, map, option_map, slice_get}
use Rattle.std.specs.BTreeMap.{BTreeMap, get}
use Rattle.semver.specs.Identifiers.{parts_of}
use Rattle.cargo_lock_parts.specs.Identity.{PackageData}
use Rattle.cargo_lock_parts.specs.PartialIdentity.{PartialIdentity, partial_identity_cmp}
use Rattle.cargo_lock_parts.specs.PartialIdentity.{partial_key}
use Rattle.cargo_lock_parts.specs.SourceKey.{key_of}
use Rattle.cargo_lock_graph.specs.Targets.{IsLastBelow}
use Rattle.cargo_lock_merge_core.specs.declared.numbers.Spot.{Spot}
use Rattle.cargo_lock_merge_core.specs.Commits.{Lockfiles}
use Rattle.cargo_lock_merge_core.specs.Places.{Place}

-- the packages of the three lists in one
abbrev pub all_of : Lockfiles → List PackageData
all_of l = (l.base ++ l.ours) ++ l.theirs

-- the place of the package
abbrev pub spot_place : Spot → Place
spot_place s = record {
  name = s.package.now.name;
  version = option_map parts_of s.located.version;
  source = option_map key_of s.located.source;
}

-- the places of a list
abbrev pub spot_places : List Spot → List Place
spot_places = map spot_place

-- the packages of a list
abbrev pub spot_packages : List Spot → List PackageData
spot_packages = map (λ s. s.package.now)

-- the map has for each place the last index below the bound
abbrev pub AreLast : List Place → ℕ → BTreeMap PartialIdentity ℕ → Type 0
AreLast places bound last = (i : PartialIdentity)
    → IsLastBelow (λ k. slice_get places k ≡ Some (partial_key i)) bound
    (get partial_identity_cmp last i)
