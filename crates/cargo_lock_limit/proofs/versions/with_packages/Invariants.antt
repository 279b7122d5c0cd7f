use Rattle.std.proofs.Common.{◌≡◌, ◌+◌, take}
use Rattle.cargo_lock_limit.specs.Lengths.{capped, packages_length}
use Rattle.cargo_lock_limit.proofs.versions.with_packages.Given as goal

-- the number with those so far
abbrev pub invariant-loop-package : goal.invariant-loop-package
invariant-loop-package l = l.total ≡ capped (l.number + packages_length (take l.package-index l.packages))
