use Rattle.std.proofs.Common.{All, map, take}
use Rattle.std.specs.List.{AllZip}
use Rattle.cargo_lock_merge_core.specs.Assembled.{IsAssembled}
use Rattle.cargo_lock_merge_core.specs.Merged.{merged_data}
use Rattle.cargo_lock_merge_core.specs.Kept.{AreInPlace}
use Rattle.cargo_lock_merge.specs.Once.{DependsApart}
use Rattle.cargo_lock_merge.specs.Order.{HasSortedDependencies}
use Rattle.cargo_lock_merge.proofs.assemble.packages.Given as goal

abbrev pub invariant-loop-one : goal.invariant-loop-one
invariant-loop-one l = record {
  zip : AllZip (IsAssembled (map merged_data l.merged)) (map merged_data (take l.one-index l.merged)) l.packages.items;
  order : All HasSortedDependencies l.packages.items;
  once : AreInPlace l.merged → All (DependsApart (map merged_data l.merged)) l.packages.items;
}
