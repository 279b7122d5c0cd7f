-- Packages with their places in a list. No public contract cites these definitions.
use Rattle.std.specs.Prelude.{◌≡◌, ◌<◌, ◌==◌, Bool, List, All, length, map, slice_index_or}
use Rattle.std.specs.Borrow.{Bor}
use Rattle.std.specs.List.{IsDistinct}
use Rattle.std.specs.declared.cmp.Ordering.{Ordering}
use Rattle.std.specs.Ordering.{on, eq_by_cmp}
use Rattle.cargo_lock_parts.specs.Identity.{PackageData}
use Rattle.cargo_lock_diff.specs.declared.likeness.Likeness.{Likeness}
use Rattle.cargo_lock_diff.specs.declared.matching.Placed.{Placed}
use Rattle.cargo_lock_diff.specs.Likeness.{likeness_cmp}

-- the order of the packages by what a likeness compares
abbrev pub placed_cmp : Likeness → Placed → Placed → Ordering
placed_cmp likeness = on (λ p. p.item.now) (likeness_cmp likeness)

-- the packages are alike
abbrev pub are_alike : Likeness → Placed → Placed → Bool
are_alike likeness = eq_by_cmp (placed_cmp likeness)

-- each package is in the list at its place, and no two have the same place
pub record AreAtPlaces (list : List (Bor PackageData)) (placed : List Placed) : Type 0 where
  pub there : All (λ p. (p.place < length list) × (slice_index_or list p.place p.item ≡ p.item))
      placed
  pub apart : IsDistinct (λ a b. a == b) (map (λ p. p.place) placed)

-- the packages of a pair
abbrev pub unplaced_pair : Placed × Placed → Bor PackageData × Bor PackageData
unplaced_pair p = (p.0.item, p.1.item)
