use Rattle.std.proofs.Common.{◌↔◌, drop, map}
use Rattle.std.specs.List.{AllByRecursion}
use Rattle.cargo_lock_parts.specs.Identity.{identity_of}
use Rattle.cargo_lock_references.specs.WrittenReference.{written_reference}
use Rattle.cargo_lock_encoding.specs.Means.{reading_list}
use Rattle.cargo_lock_references.specs.ReadBack.{ReferenceSurvives}
use Rattle.cargo_lock_encoding.proofs.survival.references_survive.Given as goal

abbrev pub invariant-loop-dependency : goal.invariant-loop-dependency
invariant-loop-dependency l =
    AllByRecursion (λ d. ReferenceSurvives (written_reference l.format (map identity_of l.list) d) (reading_list l.format (map identity_of l.list)) d) (drop l.dependency-index l.dependencies)
    ↔ AllByRecursion (λ d. ReferenceSurvives (written_reference l.format (map identity_of l.list) d) (reading_list l.format (map identity_of l.list)) d) l.dependencies
