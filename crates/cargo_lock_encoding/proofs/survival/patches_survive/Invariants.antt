use Rattle.std.proofs.Common.{◌↔◌, drop}
use Rattle.std.specs.List.{AllByRecursion}
use Rattle.cargo_lock_encoding.specs.Survives.{PatchSurvives}
use Rattle.cargo_lock_encoding.proofs.survival.patches_survive.Given as goal

abbrev pub invariant-loop-patch : goal.invariant-loop-patch
invariant-loop-patch l =
    AllByRecursion (PatchSurvives l.format) (drop l.patch-index l.patches)
    ↔ AllByRecursion (PatchSurvives l.format) l.patches
