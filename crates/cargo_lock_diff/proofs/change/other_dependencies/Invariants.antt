use Rattle.std.proofs.Common.{◌≡◌, map, take}
use Rattle.cargo_lock_diff.specs.Change.{change_of, other_dependencies}
use Rattle.cargo_lock_diff.specs.Difference.{referred_pairs}
use Rattle.cargo_lock_diff.proofs.change.other_dependencies.Given as goal

abbrev pub invariant-loop-pair : goal.invariant-loop-pair
invariant-loop-pair l = map change_of l.all.items ≡ other_dependencies l.targets (referred_pairs (take l.pair-index l.pair-items))
