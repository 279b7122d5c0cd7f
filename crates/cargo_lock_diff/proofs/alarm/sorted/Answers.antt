use Rattle.std.proofs.Common.{rules}
use Rattle.std.specs.Borrow.{Bor}
use Rattle.std.specs.Ordering.{is_lt}
use Rattle.std.proofs.lemmas.Fn.{always_returns_same}
use Rattle.std.proofs.lemmas.List.Sorted.{ranks_by}
use Rattle.cargo_lock_parts.specs.Identity.{PackageData}
use Rattle.cargo_lock_diff.specs.Vouchers.{cmp_at}
use Rattle.cargo_lock_diff.proofs.Orders.{at_total}
use Rattle.cargo_lock_diff.proofs.alarm.sorted.Goals as goal

pub returns-clause-sorted : goal.returns-clause-sorted
returns-clause-sorted c = c.in_ok-sort_by.ensures.sorted (λ (a b : Bor PackageData). is_lt (cmp_at c.args.likeness a b))
    (ranks_by (at_total c.args.likeness) (λ (p : Bor PackageData). p)) (always_returns_same _ _ _ (λ a r f k. search rules))
