use Rattle.cargo_lock_merge_core.specs.Numbered.{all_data}
use Rattle.cargo_lock_merge_core.proofs.Moving.{AreMovedSoFar}
use Rattle.cargo_lock_merge_core.proofs.moved.moved_references.Given as goal

-- the moved references of the packages so far
abbrev pub invariant-loop-one : goal.invariant-loop-one
invariant-loop-one l = AreMovedSoFar (all_data l.fn.ours) (all_data l.fn.theirs) l.merged l.one-index l.all.items
