use Rattle.std.proofs.Common.{◌≡◌, map, take}
use Rattle.cargo_lock_diff.specs.Placing.{unplaced_pair}
use Rattle.cargo_lock_diff.proofs.matching.pairs_by_place.Given as goal

abbrev pub invariant-loop-pair : goal.invariant-loop-pair
invariant-loop-pair l = l.all.items ≡ map unplaced_pair (take l.pair-index l.pair-items)
