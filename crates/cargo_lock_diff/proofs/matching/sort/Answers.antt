use Rattle.std.proofs.Common.{List, map, rules, subst, IsPermutation}
use Rattle.std.specs.Ordering.{is_lt}
use Rattle.std.specs.Borrow.{Bor}
use Rattle.std.proofs.lemmas.Fn.{always_returns_same}
use Rattle.std.proofs.lemmas.List.Sorted.{IsPermutation-map, ranks_by}
use Rattle.cargo_lock_parts.specs.Identity.{PackageData}
use Rattle.cargo_lock_diff.specs.declared.matching.Placed.{Placed}
use Rattle.cargo_lock_diff.specs.Placing.{placed_cmp}
use Rattle.cargo_lock_diff.proofs.InOrder.{at-permuted}
use Rattle.cargo_lock_diff.proofs.Orders.{placed_total}
use Rattle.cargo_lock_diff.proofs.matching.sort.Goals as goal

pub returns-clause-items : goal.returns-clause-items
returns-clause-items c =
    subst (λ (zs : List (Bor PackageData)). IsPermutation zs (map (λ (p : Placed). p.item) c.sort_by.new.self.items)) c.in_ok-all.ensures.items
    (IsPermutation-map (λ (p : Placed). p.item) c.in_ok-all.all.items c.sort_by.new.self.items c.in_ok-sort_by.ensures.permutation)

pub returns-clause-sorted : goal.returns-clause-sorted
returns-clause-sorted c = c.in_ok-sort_by.ensures.sorted (λ (a b : Placed). is_lt (placed_cmp c.args.likeness a b))
    (ranks_by (placed_total c.args.likeness) (λ (p : Placed). p)) (always_returns_same _ _ _ (λ a r f k. search rules))

pub returns-clause-placed : goal.returns-clause-placed
returns-clause-placed c = at-permuted c.args.packages.now.items c.in_ok-all.all.items c.sort_by.new.self.items
    c.in_ok-sort_by.ensures.permutation c.in_ok-all.ensures.placed
