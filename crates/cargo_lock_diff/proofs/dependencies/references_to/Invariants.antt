use Rattle.std.proofs.Common.{◌≡◌, take}
use Rattle.cargo_lock_diff.specs.Difference.{dependencies_at}
use Rattle.cargo_lock_diff.proofs.dependencies.references_to.Given as goal

abbrev pub invariant-loop-dependency : goal.invariant-loop-dependency
invariant-loop-dependency l = dependencies_at l.all.items ≡ take l.dependency-index l.dependency-items
