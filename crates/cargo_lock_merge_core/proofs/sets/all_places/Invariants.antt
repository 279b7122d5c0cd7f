use Rattle.std.proofs.Common.{length, ◌+◌, ◌-◌}
use Rattle.cargo_lock_merge_core.proofs.Ascending.{IsUnion}
use Rattle.cargo_lock_merge_core.proofs.sets.all_places.Given as goal

abbrev pub invariant-loop-one : goal.invariant-loop-one
invariant-loop-one l = IsUnion l.ours l.theirs l.one l.other l.all.items

abbrev pub decreases-loop-one : goal.decreases-loop-one
decreases-loop-one l = (length l.ours - l.one) + (length l.theirs - l.other)
