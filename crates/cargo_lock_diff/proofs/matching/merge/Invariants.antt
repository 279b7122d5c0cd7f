use Rattle.std.proofs.Common.{length, ◌+◌, ◌-◌}
use Rattle.cargo_lock_diff.specs.Placing.{placed_cmp}
use Rattle.cargo_lock_diff.proofs.Merging.{IsMerged}
use Rattle.cargo_lock_diff.proofs.matching.merge.Given as goal

abbrev pub invariant-loop-olds_done : goal.invariant-loop-olds_done
invariant-loop-olds_done l =
    IsMerged (placed_cmp l.likeness) l.olds l.news l.olds_done l.news_done l.pairs.items l.old.items l.new.items

abbrev pub decreases-loop-olds_done : goal.decreases-loop-olds_done
decreases-loop-olds_done l = (length l.olds - l.olds_done) + (length l.news - l.news_done)
