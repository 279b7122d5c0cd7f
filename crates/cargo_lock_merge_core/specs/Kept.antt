-- The merged packages of the entries so far.
use Rattle.std.specs.Prelude.{◌≡◌, ◌↔◌, ◌<◌, ℕ, All, List, Some, length, map, slice_get}
use Rattle.std.specs.Prelude.{slice_index, take}
use Rattle.std.specs.List.Sorted.{IsStrictlyIncreasing}
use Rattle.std.specs.List.{Contains}
use Rattle.cargo_lock_merge_core.specs.declared.entry.Entry.{Entry}
use Rattle.cargo_lock_merge_core.specs.declared.merged.Merged.{Merged}
use Rattle.cargo_lock_merge_core.specs.declared.plan.Plan.{Plan}
use Rattle.cargo_lock_merge_core.specs.Merged.{IsMergedEntry}
use Rattle.cargo_lock_merge_core.specs.Plans.{entry_places}
use Rattle.lists.specs.Marks.{IsMarked}

-- the place is that of an entry with a mark
abbrev pub IsMarkedPlace : Plan → ℕ → Type 0
IsMarkedPlace plan n = (k : ℕ) × (slice_get (entry_places plan.entries.items) k ≡ Some n)
    × IsMarked plan.reached.items k

-- the package is that of an entry
abbrev pub IsOfEntry : Plan → Merged → Type 0
IsOfEntry plan m = (e : Entry) × Contains plan.entries.items e × IsMergedEntry e m

-- the places of merged packages
abbrev pub merged_places : List Merged → List ℕ
merged_places = map (λ m. m.place)

-- merged packages are in the order of their places, each with its dependencies in order
pub record AreInPlace (ms : List Merged) : Type 0 where
  pub order : IsStrictlyIncreasing (merged_places ms)
  pub each : All (λ m. IsStrictlyIncreasing m.dependencies.items) ms

-- the packages are those of the first entries that have marks
pub record AreSoFar (plan : Plan) (i : ℕ) (ms : List Merged) : Type 0 where
  pub ascending : IsStrictlyIncreasing (merged_places ms)
  pub below : (k : ℕ) → k < length ms → i < length plan.entries.items
      → slice_index (merged_places ms) k < slice_index (entry_places plan.entries.items) i
  pub holds : (p : ℕ) → Contains (merged_places ms) p
      ↔ (Contains (take i (entry_places plan.entries.items)) p × IsMarkedPlace plan p)
  pub each : All (IsOfEntry plan) ms
