use Rattle.std.proofs.Common.{◌↔◌, drop, map}
use Rattle.std.specs.List.{AllByRecursion}
use Rattle.cargo_lock_parts.specs.Identity.{identity_of}
use Rattle.cargo_lock_encoding.specs.Survives.{ListedSurvives}
use Rattle.cargo_lock_encoding.proofs.survival.each_survives.Given as goal

abbrev pub invariant-loop-package : goal.invariant-loop-package
invariant-loop-package l =
    AllByRecursion (ListedSurvives l.format (map identity_of l.packages) l.metadata) (drop l.package-index l.list)
    ↔ AllByRecursion (ListedSurvives l.format (map identity_of l.packages) l.metadata) l.list
