use Rattle.std.proofs.Common.{ℕ, All, List, arith, map, subst, sym}
use Rattle.std.specs.List.{AllZip}
use Rattle.std.specs.List.Sorted.{IsStrictlyIncreasing}
use Rattle.std.proofs.lemmas.List.{take_all}
use Rattle.std.proofs.lemmas.List.Elements.{All-push}
use Rattle.cargo_lock_merge_core.specs.Assembled.{IsAssembled}
use Rattle.cargo_lock_merge_core.specs.declared.merged.Merged.{Merged}
use Rattle.cargo_lock_merge_core.specs.Merged.{merged_data}
use Rattle.cargo_lock_merge_core.specs.Placed.{PlacedData}
use Rattle.cargo_lock_merge.specs.Once.{DependsApart}
use Rattle.cargo_lock_merge.specs.Order.{HasSortedDependencies}
use Rattle.cargo_lock_merge.proofs.Assembling.{zip-one-more}
use Rattle.cargo_lock_merge.proofs.assemble.packages.Goals as goal

pub loop-one-preserved : goal.loop-one-preserved
loop-one-preserved c =
    let m : List (PlacedData ℕ) = map merged_data c.args.merged.now in
    record {
      zip = zip-one-more (IsAssembled m) c.args.merged.now c.loop-one.one-index c.one-item.result c.loop-one.packages.items c.push.new.self.items _ c.loop-one-test.true c.one-item.is c.loop-one.invariant.zip c.in_ok-package.ensures.ok c.in_ok-push.ensures.items;
      order = subst (All HasSortedDependencies) (sym c.in_ok-push.ensures.items)
          (All-push HasSortedDependencies c.loop-one.packages.items _ c.loop-one.invariant.order c.in_ok-package.ensures.order);
      once = λ placed.
          let up = placed.each c.loop-one.one-index c.one-item.result c.loop-one-test.true in
          let here = subst (λ (one : Merged). IsStrictlyIncreasing one.dependencies.items) (sym c.one-item.is) up in
          subst (All (DependsApart m)) (sym c.in_ok-push.ensures.items)
          (All-push (DependsApart m) c.loop-one.packages.items _ (c.loop-one.invariant.once placed) (c.in_ok-package.ensures.once here));
    }

pub returns-clause-ok : goal.returns-clause-ok
returns-clause-ok c =
    let m : List (PlacedData ℕ) = map merged_data c.args.merged.now in
    let end = c.loop-one-test.false in
    subst (λ (xs : List Merged). AllZip (IsAssembled m) (map merged_data xs) c.loop-one.packages.items) (take_all c.loop-one.one-index c.args.merged.now (omega (arith, end))) c.loop-one.invariant.zip
