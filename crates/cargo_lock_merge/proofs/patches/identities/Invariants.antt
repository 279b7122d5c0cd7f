use Rattle.std.proofs.Common.{◌≡◌, map, take}
use Rattle.cargo_lock_parts.specs.Identity.{identity_of}
use Rattle.cargo_lock_merge.proofs.patches.identities.Given as goal

-- the identities of the packages so far
abbrev pub invariant-loop-package : goal.invariant-loop-package
invariant-loop-package l = l.all.items ≡ map identity_of (take l.package-index l.packages)
