-- The references that a merge of three lists moved.
use Rattle.std.specs.Prelude.{◌≡◌, ◌≢◌, ◌<◌, ◌⊎◌, ℕ, All, List, map}
use Rattle.std.specs.Bool.{Decides}
use Rattle.std.specs.List.{AllPairs, AllZip, Contains}
use Rattle.std.specs.List.Sorted.{IsSorted}
use Rattle.cargo_lock_parts.specs.Identity.{HasNameAndVersion, Identity, PackageData, identity_of}
use Rattle.cargo_lock_graph.specs.Targets.{HoldsOf}
use Rattle.cargo_lock_merge_core.specs.declared.moved.Moved as merging
use Rattle.cargo_lock_merge_core.specs.Merge.{IsMovedReference}
use Rattle.cargo_lock_merge_core.specs.Moved.{IsMoved, places_of_moved, sides}
use Rattle.cargo_lock_merge_core.specs.Placed.{PlacedData}
use Rattle.cargo_lock_merge.specs.declared.moved.Moved.{Moved}
use Rattle.cargo_lock_merge.specs.declared.moved.Named.{Named}
use Rattle.cargo_lock_merge.specs.Order.{moved_order}

-- several packages of the list have the name and the version of the identity
abbrev pub HasNamesake : List PackageData → Identity → Type 0
HasNamesake packages i = (j : ℕ) × (k : ℕ) × (j < k) × HoldsOf (HasNameAndVersion i) packages j
    × HoldsOf (HasNameAndVersion i) packages k

-- the line has sources where the names and the versions do not distinguish the merged packages
abbrev pub IsShownAmong : List PackageData → Moved → Type 0
IsShownAmong packages r = Decides r.with_sources
    (HasNamesake packages (identity_of r.found.merged.from.now)
    ⊎ HasNamesake packages (identity_of r.found.merged.to.now))

-- the places of the packages
abbrev pub moved_numbers : Moved → ℕ × ℕ
moved_numbers r = places_of_moved r.found

-- These are the moved references of a merge m of the sides o and t, each once, in the order of their
-- packages. The packages are those of the merge.
pub record AreMovedReferences (o t m : List (PlacedData ℕ)) (packages : List PackageData)
    (all : List Moved) : Type 0 where
  pub each : All (λ r. (x : PlacedData ℕ) × (y : PlacedData ℕ) × IsMoved o t m x y r.found) all
  pub all_there : (x y : PlacedData ℕ) → IsMovedReference (sides o t) m x y
      → Contains (map moved_numbers all) (x.place, y.place)
  pub once : AllPairs (λ a b. a ≢ b) (map moved_numbers all)
  pub order : IsSorted moved_order all
  pub shown : All (IsShownAmong packages) all

-- ---- as the program has them

-- the reference with the identities of its packages
pub record IsNamedMoved (found : merging.Moved) (n : Named) : Type 0 where
  pub same : n.found ≡ found
  pub from : n.from ≡ identity_of found.merged.from.now
  pub to : n.to ≡ identity_of found.merged.to.now

-- the same of each
abbrev pub AreNamedMoved : List merging.Moved → List Named → Type 0
AreNamedMoved = AllZip IsNamedMoved

-- the reference with whether its line has sources
pub record IsMarkedMoved (packages : List PackageData) (n : Named) (r : Moved) : Type 0 where
  pub same : r.found ≡ n.found
  pub shown : Decides r.with_sources (HasNamesake packages n.from ⊎ HasNamesake packages n.to)

-- the same of each
abbrev pub AreMarkedMoved : List PackageData → List Named → List Moved → Type 0
AreMarkedMoved packages = AllZip (IsMarkedMoved packages)
