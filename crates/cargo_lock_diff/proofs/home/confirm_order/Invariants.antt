use Rattle.std.specs.List.Sorted.{IsSortedWithin}
use Rattle.std.specs.Ordering.{is_lt}
use Rattle.cargo_lock_order.specs.Order.{package_order}
use Rattle.cargo_lock_diff.proofs.home.confirm_order.Given as goal

-- what is before the place is in order
abbrev pub invariant-loop-place : goal.invariant-loop-place
invariant-loop-place l = IsSortedWithin (λ x y. is_lt (package_order x y)) l.packages 0 l.place
