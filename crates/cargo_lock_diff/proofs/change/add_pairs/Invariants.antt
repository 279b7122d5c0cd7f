use Rattle.std.proofs.Common.{◌≡◌, ◌++◌, map, take}
use Rattle.cargo_lock_diff.specs.Change.{change_of, changes_in}
use Rattle.cargo_lock_diff.specs.Difference.{referred_pairs}
use Rattle.cargo_lock_diff.proofs.change.add_pairs.Given as goal

abbrev pub invariant-loop-pair : goal.invariant-loop-pair
invariant-loop-pair l = map change_of l.all.items ≡ map change_of l.fn.all.items ++ changes_in l.aspect (referred_pairs (take l.pair-index l.pair-items))
