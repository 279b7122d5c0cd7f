-- Packages found at places.
use Rattle.std.proofs.Common.{◌≡◌, ℕ, ◌<◌, ◌≤◌, List, length, get_or, ap, subst, ◌∙◌, arith, Some, None}
use Rattle.std.specs.List.{Contains}
use Rattle.std.proofs.lemmas.List.{get_or-map, length-map}
use Rattle.cargo_lock_merge_core.specs.declared.placed.Placed.{Placed}
use Rattle.cargo_lock_merge_core.specs.Numbered.{IsInOrder, all_data, place_number, place_numbers, placed_data}
use Rattle.cargo_lock_merge_core.specs.Placed.{PlacedData, IsAt}
use Rattle.cargo_lock_merge_core.specs.Sets.{AreBelowPlace}
use Rattle.cargo_lock_merge_core.proofs.Ascending.{stops-at}

pub place-at : (xs : List Placed) (at : ℕ) (d : Placed) → at < length xs → get_or (place_numbers (all_data xs)) at 0 ≡ (get_or xs at d).place
place-at xs at d low =
    get_or-map place_number (all_data xs) at (placed_data d) 0 (omega (arith, length-map xs placed_data, low))
    ∙ ap place_number (get_or-map placed_data xs at d (placed_data d) low)

pub length-places : (xs : List Placed) → length (place_numbers (all_data xs)) ≡ length xs
length-places xs = length-map (all_data xs) place_number ∙ length-map xs placed_data

-- the place of a package of a list is one of its places
pub place-among : (xs : List (PlacedData ℕ)) (x : PlacedData ℕ) → Contains xs x → Contains (place_numbers xs) x.place
place-among xs x h =
    let k : ℕ = h.0 in
    let low : k < length xs = h.1 in
    (k, omega (arith, low, length-map xs place_number), get_or-map place_number xs k x x.place low ∙ ap place_number h.2)

module _ (xs : List Placed) (at place : ℕ) (up : IsInOrder (all_data xs)) (below : AreBelowPlace (place_numbers (all_data xs)) at place) where
  -- the package where the search stops has the place
  pub stopped-at : (x : Placed) → at < length xs → get_or xs at x ≡ x → x.place ≡ place → IsAt (all_data xs) place (Some (placed_data x))
  stopped-at x low is here =
      ((at, omega (arith, low, length-map xs placed_data), get_or-map placed_data xs at x (placed_data x) low ∙ ap placed_data is), here)

  -- it has another, or the list ends there
  pub stopped-none : (at < length xs → (place ≤ get_or (place_numbers (all_data xs)) at 0) × ¬ (get_or (place_numbers (all_data xs)) at 0 ≡ place)) → IsAt (all_data xs) place None
  stopped-none other x h =
      let long = length-places xs in
      let among : Contains (place_numbers (all_data xs)) place = subst (λ n. Contains (place_numbers (all_data xs)) n) h.1 (place-among (all_data xs) x h.0) in
      let s = stops-at (place_numbers (all_data xs)) at place up below (λ l. (other (omega (arith, l, long))).0) among in
      (other (let l = s.0 in omega (arith, l, long))).1 s.1
