use Rattle.std.proofs.Common.{length, ◌-◌}
use Rattle.cargo_lock_merge_core.specs.Numbered.{all_data, place_numbers}
use Rattle.cargo_lock_merge_core.specs.Sets.{AreBelowPlace}
use Rattle.cargo_lock_merge_core.proofs.rows.package_of.Given as goal

abbrev pub invariant-loop-at : goal.invariant-loop-at
invariant-loop-at l = AreBelowPlace (place_numbers (all_data l.list)) l.at l.place

abbrev pub decreases-loop-at : goal.decreases-loop-at
decreases-loop-at l = length l.list - l.at
