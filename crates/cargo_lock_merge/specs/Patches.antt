-- The unused patches of a merge.
use Rattle.std.specs.Prelude.{◌↔◌, Bool, IsTrue, List}
use Rattle.std.specs.BTreeSet.{keys}
use Rattle.std.specs.List.{IsDistinct, list_any}
use Rattle.std.specs.List.Sorted.{IsSorted}
use Rattle.cargo_lock.specs.Shortest.{AreDistinct, IsAmong}
use Rattle.cargo_lock_merge.specs.Order.{patch_order}
use Rattle.cargo_lock_merge.specs.declared.patches.PatchSets.{PatchSets}
use Rattle.cargo_lock_merge_core.specs.Rule3.{IsKept}
use Rattle.cargo_lock_parts.specs.Identity.{Identity}
use Rattle.cargo_lock_parts.specs.IdentityOrder.{is_same_identity}

-- The unused patches m are those of a merge of two sides over a base: exactly those which both
-- sides have, or which one side has and the base has not, each once, in the order of packages.
pub record ArePatchesOf (b o t m : List Identity) : Type 0 where
  pub kept : (d : Identity) → IsAmong m d ↔ IsKept (IsAmong b d) (IsAmong o d) (IsAmong t d)
  pub once : AreDistinct m
  pub order : IsSorted patch_order m

-- ---- as the program has them

-- the list has an identity that is equal to this one
abbrev pub has_identity : List Identity → Identity → Bool
has_identity list d = list_any (is_same_identity d) list

-- the list has an identity that is equal to this one
abbrev pub IsIn : List Identity → Identity → Type 0
IsIn list d = IsTrue (has_identity list d)

-- an equal identity is kept of those of the three sets
abbrev pub IsKeptOf : PatchSets → Identity → Type 0
IsKeptOf sets d = IsKept (IsIn (keys sets.base) d) (IsIn (keys sets.ours) d)
    (IsIn (keys sets.theirs) d)

-- the identities m are exactly those that are kept, and no two are equal
pub record AreKept (b o t m : List Identity) : Type 0 where
  pub kept : (d : Identity) → IsIn m d ↔ IsKept (IsIn b d) (IsIn o d) (IsIn t d)
  pub once : IsDistinct is_same_identity m
