use Rattle.std.proofs.Common.{◌≡◌, ◌≤◌, map, take}
use Rattle.cargo_lock_audit.specs.Coverage.{count_from, package_by_place}
use Rattle.cargo_lock_audit.proofs.coverage.count_from.Given as goal

-- how many of the packages so far come from there
abbrev pub invariant-loop-package : goal.invariant-loop-package
invariant-loop-package l = (l.number ≡ count_from l.origin (map package_by_place (take l.package-index l.packages))) × (l.number ≤ l.package-index)
