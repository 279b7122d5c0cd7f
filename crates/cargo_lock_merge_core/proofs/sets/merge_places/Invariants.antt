use Rattle.std.proofs.Common.{◌<◌, length, get_or}
use Rattle.cargo_lock_merge_core.specs.Sets.{AreBelowPlace}
use Rattle.cargo_lock_merge_core.proofs.Kept.{AreKept, IsKeptOf}
use Rattle.cargo_lock_merge_core.proofs.sets.merge_places.Given as goal

abbrev pub invariant-loop-place : goal.invariant-loop-place
invariant-loop-place l = record {
  kept : AreKept (IsKeptOf l.base l.ours l.theirs) l.place-items l.place-index l.merged.items;
  base : l.place-index < length l.place-items → AreBelowPlace l.base l.at_base (get_or l.place-items l.place-index 0);
  ours : l.place-index < length l.place-items → AreBelowPlace l.ours l.at_ours (get_or l.place-items l.place-index 0);
  theirs : l.place-index < length l.place-items → AreBelowPlace l.theirs l.at_theirs (get_or l.place-items l.place-index 0);
}
