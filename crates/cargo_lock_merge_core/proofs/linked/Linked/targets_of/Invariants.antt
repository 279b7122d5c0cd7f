use Rattle.std.proofs.Common.{◌<◌, length, take}
use Rattle.std.specs.List.{All, AllZip}
use Rattle.cargo_lock_merge_core.specs.Linked.{RefersTo}
use Rattle.cargo_lock_merge_core.proofs.linked.Linked.targets_of.Given as goal

-- the indices to which the dependencies so far refer
abbrev pub invariant-loop-dependency : goal.invariant-loop-dependency
invariant-loop-dependency l = record {
  zip : AllZip (RefersTo l.self) (take l.dependency-index l.dependencies) l.targets.items;
  within : All (λ k. k < length l.self) l.targets.items;
}
