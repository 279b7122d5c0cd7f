use Rattle.std.specs.List.Sorted.{IsSortedWithin}
use Rattle.std.specs.Ordering.{is_lt}
use Rattle.cargo_lock_merge.proofs.order.confirm_order.Given as goal

-- what is before the place is in order
abbrev pub invariant-loop-at : goal.invariant-loop-at
invariant-loop-at g l = IsSortedWithin (λ x y. is_lt (g.T.Ordered.order x y)) l.list 0 l.at
