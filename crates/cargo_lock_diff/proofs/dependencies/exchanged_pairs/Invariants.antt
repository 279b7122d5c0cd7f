use Rattle.std.proofs.Common.{◌≡◌, map, take}
use Rattle.cargo_lock_diff.specs.Difference.{referred_pairs}
use Rattle.cargo_lock_diff.specs.Pairing.{exchanged_pair}
use Rattle.cargo_lock_diff.proofs.dependencies.exchanged_pairs.Given as goal

abbrev pub invariant-loop-pair : goal.invariant-loop-pair
invariant-loop-pair l = referred_pairs l.all.items ≡ map exchanged_pair (referred_pairs (take l.pair-index l.pair-items))
