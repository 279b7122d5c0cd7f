-- What a merge of three lists tells of places where the sides are in no conflict.
use Rattle.std.specs.Prelude.{◌≢◌, ◌↔◌, ℕ, All, List, map}
use Rattle.std.specs.List.{AllPairs, Contains}
use Rattle.cargo_lock_merge_core.specs.declared.conflicts.Conflict as merging
use Rattle.cargo_lock_merge_core.specs.Conflicts.{IsConflictAt}
use Rattle.cargo_lock_merge_core.specs.Merge.{IsConflicting, IsMatter, MatterData, Triple}
use Rattle.cargo_lock_merge.specs.Conflict.{subject_at}

-- these are all that there is to report and that is no conflict, each once
pub record AreNotices (s : Triple ℕ) (all : List merging.Conflict) : Type 0 where
  pub exact : (c : MatterData ℕ) → Contains (map subject_at all) c
      ↔ ((¬ IsConflicting c) × IsMatter s c)
  pub once : AllPairs (λ a b. a ≢ b) (map subject_at all)
  pub each : All (λ c. IsConflictAt s c.kind c) all
