use Rattle.std.proofs.Common.{take}
use Rattle.std.specs.List.{AllZip}
use Rattle.cargo_lock_merge.specs.Referring.{IsReferenceTo}
use Rattle.cargo_lock_merge.proofs.referring.dependencies.Given as goal

-- the dependencies so far
abbrev pub invariant-loop-dependency : goal.invariant-loop-dependency
invariant-loop-dependency l = AllZip IsReferenceTo (take l.dependency-index l.list) l.all.items
