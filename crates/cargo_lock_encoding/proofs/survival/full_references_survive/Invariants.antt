use Rattle.std.proofs.Common.{◌↔◌, drop}
use Rattle.std.specs.List.{AllByRecursion}
use Rattle.cargo_lock_encoding.specs.Survives.{FullReferenceSurvives}
use Rattle.cargo_lock_encoding.proofs.survival.full_references_survive.Given as goal

abbrev pub invariant-loop-dependency : goal.invariant-loop-dependency
invariant-loop-dependency l =
    AllByRecursion (FullReferenceSurvives l.format) (drop l.dependency-index l.dependencies)
    ↔ AllByRecursion (FullReferenceSurvives l.format) l.dependencies
