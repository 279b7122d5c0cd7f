use Rattle.std.proofs.Common.{◌≡◌, ◌++◌, drop, map, take}
use Rattle.cargo_lock_merge.specs.Spelling.{identity_as_written}
use Rattle.cargo_lock_merge.proofs.spelling.respell_dependencies.Given as goal

abbrev pub invariant-loop-dependency : goal.invariant-loop-dependency
invariant-loop-dependency l =
    l.dependencies ≡ map identity_as_written (take l.dependency-index l.fn.dependencies) ++ drop l.dependency-index l.fn.dependencies
