use Rattle.std.proofs.Common.{◌≡◌, take}
use Rattle.std.specs.BTreeSet.{keys}
use Rattle.cargo_lock_parts.specs.Identity.{Identity}
use Rattle.cargo_lock_merge.specs.Patches.{has_identity}
use Rattle.cargo_lock_merge.proofs.patches.set_of.Given as goal

-- the set has the patches so far
abbrev pub invariant-loop-patch : goal.invariant-loop-patch
invariant-loop-patch l = (d : Identity) → has_identity (keys l.set) d ≡ has_identity (take l.patch-index l.patches) d
