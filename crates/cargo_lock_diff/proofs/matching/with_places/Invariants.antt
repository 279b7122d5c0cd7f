use Rattle.std.proofs.Common.{◌≡◌, map, take}
use Rattle.cargo_lock_diff.proofs.InOrder.{AreNumbered}
use Rattle.cargo_lock_diff.proofs.matching.with_places.Given as goal

abbrev pub invariant-loop-place : goal.invariant-loop-place
invariant-loop-place l = (map (λ p. p.item) l.all.items ≡ take l.place l.packages.items) × AreNumbered l.all.items
