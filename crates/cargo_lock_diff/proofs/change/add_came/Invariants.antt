use Rattle.std.proofs.Common.{◌≡◌, ◌++◌, map, take}
use Rattle.cargo_lock_diff.specs.Change.{NewSource, change_of}
use Rattle.cargo_lock_diff.specs.Difference.{referred_pairs}
use Rattle.cargo_lock_diff.proofs.change.add_came.Given as goal

abbrev pub invariant-loop-pair : goal.invariant-loop-pair
invariant-loop-pair l = map change_of l.all.items ≡ map change_of l.fn.all.items ++ map (λ a. NewSource a.0 a.1) (referred_pairs (take l.pair-index l.pair-items))
