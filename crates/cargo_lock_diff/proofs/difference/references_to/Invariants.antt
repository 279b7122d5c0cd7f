use Rattle.std.proofs.Common.{◌≡◌, take}
use Rattle.cargo_lock_diff.specs.Difference.{referred_packages}
use Rattle.cargo_lock_diff.proofs.difference.references_to.Given as goal

abbrev pub invariant-loop-package : goal.invariant-loop-package
invariant-loop-package l = referred_packages l.all.items ≡ take l.package-index l.packages
