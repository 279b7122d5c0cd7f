use Rattle.std.proofs.Common.{◌≡◌, ◌+◌, take}
use Rattle.cargo_lock_limit.specs.Lengths.{capped, dependencies_length}
use Rattle.cargo_lock_limit.proofs.versions.with_dependencies.Given as goal

-- the number with those so far
abbrev pub invariant-loop-dependency : goal.invariant-loop-dependency
invariant-loop-dependency l = l.total ≡ capped (l.number + dependencies_length (take l.dependency-index l.dependencies))
