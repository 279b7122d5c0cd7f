use Rattle.std.proofs.Common.{◌≡◌, take}
use Rattle.std.specs.List.{flat_map}
use Rattle.cargo_lock_diff.proofs.pairing.in_all.Given as goal

abbrev pub invariant-loop-pairs : goal.invariant-loop-pairs
invariant-loop-pairs l = l.all.items ≡ flat_map (λ pairs. pairs.items) (take l.pairs-index l.pairs-items)
