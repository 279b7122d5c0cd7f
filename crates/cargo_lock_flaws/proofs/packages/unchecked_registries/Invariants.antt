use Rattle.cargo_lock_flaws.specs.Packages.{IsUnchecked}
use Rattle.lists.specs.Places.{IsPlaces}
use Rattle.cargo_lock_flaws.specs.Seen.{AreOwn}
use Rattle.cargo_lock_flaws.proofs.packages.unchecked_registries.Given as goal

abbrev pub invariant-loop-place : goal.invariant-loop-place
invariant-loop-place l = record {
  own : AreOwn l.packages l.place l.seen;
  told : IsPlaces (IsUnchecked l.packages) l.place l.places.items;
}
