use Rattle.std.proofs.Common.{◌≡◌, ◌++◌, map, take}
use Rattle.cargo_lock_diff.specs.Change.{Added, change_of}
use Rattle.cargo_lock_diff.specs.Difference.{referred_packages}
use Rattle.cargo_lock_diff.proofs.change.add_added.Given as goal

abbrev pub invariant-loop-package : goal.invariant-loop-package
invariant-loop-package l = map change_of l.all.items ≡ map change_of l.fn.all.items ++ map Added (referred_packages (take l.package-index l.package-items))
