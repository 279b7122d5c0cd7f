use Rattle.lists.specs.Places.{IsPlaces}
use Rattle.cargo_lock_flaws.specs.Sources.{IsFromAt, IsRespelt}
use Rattle.cargo_lock_flaws.proofs.sources.respelt_sources.Given as goal

abbrev pub invariant-loop-place : goal.invariant-loop-place
invariant-loop-place l = IsPlaces (IsFromAt IsRespelt l.packages) l.place l.places.items
