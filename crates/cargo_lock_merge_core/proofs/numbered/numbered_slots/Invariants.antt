use Rattle.cargo_lock_merge_core.specs.Lists.{all_numbered}
use Rattle.cargo_lock_merge_core.proofs.Slotting.{AreFirst}
use Rattle.cargo_lock_merge_core.proofs.numbered.numbered_slots.Given as goal

-- the packages of the slots so far
abbrev pub invariant-loop-slot : goal.invariant-loop-slot
invariant-loop-slot l = AreFirst l.numbers l.offset l.linked l.slots l.slot-index (all_numbered l.all.items)
