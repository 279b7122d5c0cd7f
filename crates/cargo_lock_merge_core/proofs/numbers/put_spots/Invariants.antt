use Rattle.std.proofs.Common.{◌≡◌, ◌++◌, map, take}
use Rattle.cargo_lock_merge_core.specs.Commits.{Lockfiles}
use Rattle.cargo_lock_merge_core.specs.Located.{AreMemberCounts}
use Rattle.cargo_lock_merge_core.specs.Numbers.{spot_packages, spot_places}
use Rattle.cargo_lock_merge_core.specs.Places.{merge_place}
use Rattle.cargo_lock_merge_core.proofs.numbers.put_spots.Given as goal

abbrev pub invariant-loop-package : goal.invariant-loop-package
invariant-loop-package l = record {
  packages : spot_packages l.spots.items ≡ spot_packages l.initial.spots.items ++ map (λ p. p) (take l.package-index l.packages);
  places : (all : Lockfiles) → AreMemberCounts all l.counts → spot_places l.spots.items ≡ spot_places l.initial.spots.items ++ map (merge_place all) (take l.package-index l.packages);
}
