use Rattle.std.proofs.Common.{take}
use Rattle.std.specs.List.{All}
use Rattle.cargo_lock_merge_core.specs.Linked.{IsResolved}
use Rattle.cargo_lock_merge_core.proofs.linked.each_resolves.Given as goal

-- the dependencies so far resolve
abbrev pub invariant-loop-dependency : goal.invariant-loop-dependency
invariant-loop-dependency l =
    All (IsResolved l.groups.packages) (take l.dependency-index l.dependencies)
