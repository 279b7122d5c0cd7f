use Rattle.std.proofs.Common.{◌≡◌, ◌<◌, length, get_or, map, take, All}
use Rattle.cargo_lock_merge_core.specs.Numbered.{all_data, place_numbers}
use Rattle.cargo_lock_merge_core.specs.Sets.{AreBelowPlace}
use Rattle.cargo_lock_merge_core.specs.Numbered.{IsRowOf}
use Rattle.cargo_lock_merge_core.proofs.rows.rows.Given as goal

abbrev pub invariant-loop-place : goal.invariant-loop-place
invariant-loop-place l = record {
  places : map (λ r. r.place) l.rows.items ≡ take l.place-index l.place-items;
  exact : All (IsRowOf (all_data l.base) (all_data l.ours) (all_data l.theirs)) l.rows.items;
  base : l.place-index < length l.place-items → AreBelowPlace (place_numbers (all_data l.base)) l.at_base (get_or l.place-items l.place-index 0);
  ours : l.place-index < length l.place-items → AreBelowPlace (place_numbers (all_data l.ours)) l.at_ours (get_or l.place-items l.place-index 0);
  theirs : l.place-index < length l.place-items → AreBelowPlace (place_numbers (all_data l.theirs)) l.at_theirs (get_or l.place-items l.place-index 0);
}
