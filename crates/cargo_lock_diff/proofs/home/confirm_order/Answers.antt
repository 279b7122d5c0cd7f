use Rattle.std.proofs.Common.{ap, arith, sym, ◌∙◌}
use Rattle.std.specs.Ordering.{is_lt}
use Rattle.cargo_lock_order.specs.Order.{package_order}
use Rattle.cargo_lock_diff.proofs.Homes.{sorted-more}
use Rattle.cargo_lock_diff.proofs.home.confirm_order.Goals as goal

pub loop-place-preserved : goal.loop-place-preserved
loop-place-preserved c =
    sorted-more (λ x y. is_lt (package_order x y)) c.args.packages.now c.loop-place.place c.index-packages-place.result c.index-packages-place-in-loop-place.result
    (omega arith) (omega arith) c.index-packages-place.is c.index-packages-place-in-loop-place.is
    (sym (c.is_lt.ensures ∙ ap is_lt c.in_ok-package_order.ensures) ∙ c.if-is_lt.false) c.loop-place.invariant
