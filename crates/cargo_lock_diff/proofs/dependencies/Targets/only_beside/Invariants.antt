use Rattle.std.proofs.Common.{◌≡◌, take}
use Rattle.cargo_lock_diff.specs.Dependencies.{only_in}
use Rattle.cargo_lock_diff.specs.Difference.{dependencies_at}
use Rattle.cargo_lock_diff.proofs.dependencies.Targets.only_beside.Given as goal

abbrev pub invariant-loop-dependency : goal.invariant-loop-dependency
invariant-loop-dependency l = dependencies_at l.only.items
    ≡ only_in l.forward l.self (take l.dependency-index l.dependency-items) (dependencies_at l.others.items)
