use Rattle.std.proofs.Common.{◌≡◌, map, take}
use Rattle.cargo_lock_parts.specs.Identity.{identity_of}
use Rattle.cargo_lock_merge.proofs.patches.packages_of.Given as goal

-- the packages of the identities so far
abbrev pub invariant-loop-patch : goal.invariant-loop-patch
invariant-loop-patch l = map identity_of l.packages.items ≡ take l.patch-index l.patches
