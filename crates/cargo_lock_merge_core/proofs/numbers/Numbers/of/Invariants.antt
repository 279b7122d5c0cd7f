use Rattle.cargo_lock_merge_core.specs.Numbers.{AreLast, spot_places}
use Rattle.cargo_lock_merge_core.proofs.numbers.Numbers.of.Given as goal

-- the numbers of the first places
abbrev pub invariant-loop-at : goal.invariant-loop-at
invariant-loop-at l = AreLast (spot_places l.spots) l.at l.last
