use Rattle.std.proofs.Common.{rules, IsPermutation, List, subst}
use Rattle.std.specs.Borrow.{Bor}
use Rattle.std.specs.Ordering.{is_lt}
use Rattle.std.proofs.lemmas.Fn.{always_returns_same}
use Rattle.std.proofs.lemmas.List.Sorted.{IsPermutation-map, ranks_by}
use Rattle.cargo_lock_parts.specs.Identity.{Identity}
use Rattle.cargo_lock_diff.specs.Difference.{dependencies_at}
use Rattle.cargo_lock_diff.specs.Targets.{dependencies_cmp}
use Rattle.cargo_lock_diff.proofs.Orders.{target_total}
use Rattle.cargo_lock_diff.proofs.dependencies.dependencies_in_order.Goals as goal

pub returns-clause-sorted : goal.returns-clause-sorted
returns-clause-sorted c = c.in_ok-sort_by.ensures.sorted (λ (a b : Bor Identity). is_lt (dependencies_cmp a b))
    (ranks_by target_total (λ (b : Bor Identity). b.now)) (always_returns_same _ _ _ (λ a r f k. search rules))

pub returns-clause-items : goal.returns-clause-items
returns-clause-items c =
    subst (λ (zs : List Identity). IsPermutation zs (dependencies_at c.sort_by.new.self.items)) c.in_ok-all.ensures
    (IsPermutation-map (λ (b : Bor Identity). b.now) c.in_ok-all.all.items c.sort_by.new.self.items c.in_ok-sort_by.ensures.permutation)
