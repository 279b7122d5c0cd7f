use Rattle.cargo_lock_diff.specs.Placing.{placed_cmp}
use Rattle.cargo_lock_diff.proofs.Apart.{AreApart}
use Rattle.cargo_lock_diff.proofs.matching.take_apart.Given as goal

abbrev pub invariant-loop-place : goal.invariant-loop-place
invariant-loop-place l = AreApart (placed_cmp l.likeness) l.sorted l.place l.alone.items l.others.items
