use Rattle.cargo_lock_merge_core.specs.Lists.{AreSlots}
use Rattle.cargo_lock_merge_core.proofs.numbered.slots.Given as goal

-- the slots of the packages so far
abbrev pub invariant-loop-at : goal.invariant-loop-at
invariant-loop-at l = AreSlots l.numbers l.offset l.at l.slots.items
