use Rattle.std.proofs.Common.{◌≡◌, ◌++◌, drop, map, take}
use Rattle.cargo_lock_merge.specs.Spelling.{package_as_written}
use Rattle.cargo_lock_merge.proofs.spelling.respell_packages.Given as goal

abbrev pub invariant-loop-package : goal.invariant-loop-package
invariant-loop-package l =
    l.packages ≡ map package_as_written (take l.package-index l.fn.packages) ++ drop l.package-index l.fn.packages
