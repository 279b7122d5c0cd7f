use Rattle.std.proofs.Common.{rules}
use Rattle.std.specs.Borrow.{Bor}
use Rattle.std.specs.Ordering.{is_lt}
use Rattle.std.proofs.lemmas.Fn.{always_returns_same}
use Rattle.std.proofs.lemmas.List.Sorted.{ranks_by}
use Rattle.cargo_lock_parts.specs.Identity.{PackageData}
use Rattle.cargo_lock_diff.specs.declared.likeness.Likeness.TheVariants.{Whole}
use Rattle.cargo_lock_diff.specs.Likeness.{likeness_cmp}
use Rattle.cargo_lock_diff.proofs.Orders.{likeness_total}
use Rattle.cargo_lock_diff.proofs.pairing.in_order.Goals as goal

pub returns-clause-sorted : goal.returns-clause-sorted
returns-clause-sorted c = c.in_ok-sort_by.ensures.sorted
    (λ (a b : Bor PackageData × Bor PackageData). is_lt (likeness_cmp Whole a.0.now b.0.now))
    (ranks_by (likeness_total Whole) (λ (p : Bor PackageData × Bor PackageData). p.0.now))
    (always_returns_same _ _ _ (λ a r f k. search rules))
