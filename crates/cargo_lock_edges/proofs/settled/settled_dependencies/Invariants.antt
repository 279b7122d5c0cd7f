use Rattle.std.proofs.Common.{take}
use Rattle.std.specs.List.{AllZip}
use Rattle.cargo_lock_edges.specs.Settled.{IsSettledAs}
use Rattle.cargo_lock_edges.proofs.settled.settled_dependencies.Given as goal

abbrev pub invariant-loop-dependency : goal.invariant-loop-dependency
invariant-loop-dependency l =
    AllZip (IsSettledAs l.groups.packages) (take l.dependency-index l.dependencies) l.settled.items
