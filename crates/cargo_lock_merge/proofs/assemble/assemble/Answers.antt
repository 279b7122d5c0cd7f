use Rattle.std.proofs.Common.{ℕ, List, map}
use Rattle.std.proofs.lemmas.List.Sorted.{All-permutation}
use Rattle.cargo_lock_merge_core.specs.Assembled.{IsAssembled}
use Rattle.cargo_lock_merge_core.specs.Merged.{merged_data}
use Rattle.cargo_lock_merge_core.specs.Placed.{PlacedData}
use Rattle.cargo_lock_merge.specs.Once.{DependsApart}
use Rattle.cargo_lock_merge.specs.Order.{HasSortedDependencies}
use Rattle.cargo_lock_merge.proofs.Assembling.{zip-permuted}
use Rattle.cargo_lock_merge.proofs.assemble.assemble.Goals as goal

pub returns-clause-ok : goal.returns-clause-ok
returns-clause-ok c =
    let m : List (PlacedData ℕ) = map merged_data c.args.merged.now in
    zip-permuted (IsAssembled m) m c.in_ok-packages.packages.items c.put_in_order.new.list.items c.in_ok-packages.ensures.ok c.in_ok-put_in_order.ensures.permutation

pub returns-clause-order : goal.returns-clause-order
returns-clause-order c = record {
  packages = c.in_ok-put_in_order.ensures.sorted;
  dependencies = All-permutation HasSortedDependencies c.in_ok-packages.packages.items c.put_in_order.new.list.items c.in_ok-put_in_order.ensures.permutation c.in_ok-packages.ensures.order;
}

pub returns-clause-once : goal.returns-clause-once
returns-clause-once c = λ placed.
    let m : List (PlacedData ℕ) = map merged_data c.args.merged.now in
    All-permutation (DependsApart m) c.in_ok-packages.packages.items c.put_in_order.new.list.items c.in_ok-put_in_order.ensures.permutation (c.in_ok-packages.ensures.once placed)
