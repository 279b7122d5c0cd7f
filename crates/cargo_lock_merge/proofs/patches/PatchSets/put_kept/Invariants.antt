use Rattle.std.proofs.Common.{◌↔◌, ◌⊎◌, take}
use Rattle.std.specs.BTreeSet.{keys}
use Rattle.cargo_lock_parts.specs.Identity.{Identity}
use Rattle.cargo_lock_merge.specs.Patches.{IsIn, IsKeptOf}
use Rattle.cargo_lock_merge.proofs.patches.PatchSets.put_kept.Given as goal

-- the set has what it had, and those so far that are kept
abbrev pub invariant-loop-patch : goal.invariant-loop-patch
invariant-loop-patch l = (d : Identity) → IsIn (keys l.kept) d ↔ (IsIn (keys l.fn.kept) d ⊎ (IsIn (take l.patch-index l.patches) d × IsKeptOf l.self d))
