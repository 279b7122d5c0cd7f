use Rattle.std.proofs.Common.{◌≡◌, take}
use Rattle.cargo_lock_merge_core.specs.Kept.{merged_places}
use Rattle.cargo_lock_merge_core.proofs.moved.places_of_merged.Given as goal

abbrev pub invariant-loop-one : goal.invariant-loop-one
invariant-loop-one l = l.places.items ≡ merged_places (take l.one-index l.merged)
