-- The old packages that have a checksum, in the form in which they are looked up. No public
-- contract cites these definitions.
use Rattle.std.specs.Prelude.{◌≡◌, true, List, All, IsPermutation, IsSorted}
use Rattle.std.specs.Borrow.{Bor}
use Rattle.std.specs.declared.cmp.Ordering.{Ordering}
use Rattle.std.specs.Ordering.{on}
use Rattle.cargo_lock_parts.specs.Identity.{PackageData}
use Rattle.cargo_lock_diff.specs.declared.likeness.Likeness.{Likeness}
use Rattle.cargo_lock_diff.specs.declared.likeness.Likeness.TheVariants.{Version, Place, Archive}
use Rattle.cargo_lock_diff.specs.Alarm.{is_checksummed}
use Rattle.cargo_lock_diff.specs.Likeness.{likeness_cmp}

-- the order of the packages to which the references refer
abbrev pub cmp_at : Likeness → Bor PackageData → Bor PackageData → Ordering
cmp_at likeness = on (λ b. b.now) (likeness_cmp likeness)

-- each has a checksum, and the lists have the same packages, each list in its order
pub record AreVouchers (by_version by_archive by_place : List (Bor PackageData)) : Type 0 where
  pub checked : All (λ b. is_checksummed b.now ≡ true) by_version
  pub archives : IsPermutation by_version by_archive
  pub places : IsPermutation by_version by_place
  pub versions_sorted : IsSorted (cmp_at Version) by_version
  pub archives_sorted : IsSorted (cmp_at Archive) by_archive
  pub places_sorted : IsSorted (cmp_at Place) by_place
