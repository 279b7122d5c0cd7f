use Rattle.std.proofs.Common.{◌≡◌}
use Rattle.std.specs.List.{AllAdjacentBelow}
use Rattle.std.specs.declared.cmp.Ordering.TheVariants.{Less}
use Rattle.cargo_lock_parts.specs.IdentityOrder.{identity_cmp}
use Rattle.cargo_lock_flaws.proofs.dependencies.ascend.Given as goal

abbrev pub invariant-loop-at : goal.invariant-loop-at
invariant-loop-at l = AllAdjacentBelow (λ d next. identity_cmp d next ≡ Less) l.dependencies l.at
