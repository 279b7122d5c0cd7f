use Rattle.std.proofs.Common.{take}
use Rattle.std.specs.List.{AllZip}
use Rattle.cargo_lock_edges.specs.Settled.{IsSettledPackage}
use Rattle.cargo_lock_edges.proofs.settled.settled_by.Given as goal

abbrev pub invariant-loop-package : goal.invariant-loop-package
invariant-loop-package l =
    AllZip (IsSettledPackage l.groups.packages) (take l.package-index l.packages) l.settled.items
