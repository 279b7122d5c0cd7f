use Rattle.std.proofs.Common.{◌≡◌, map, take}
use Rattle.cargo_lock_diff.proofs.matching.items_by_place.Given as goal

abbrev pub invariant-loop-one : goal.invariant-loop-one
invariant-loop-one l = l.all.items ≡ map (λ p. p.item) (take l.one-index l.one-items)
