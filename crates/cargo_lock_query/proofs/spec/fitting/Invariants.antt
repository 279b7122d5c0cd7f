use Rattle.lists.specs.Places.{IsPlaces}
use Rattle.cargo_lock_query.specs.Spec.{SpecFits}
use Rattle.cargo_lock_query.proofs.spec.fitting.Given as goal

-- the places so far
abbrev pub invariant-loop-place : goal.invariant-loop-place
invariant-loop-place l = IsPlaces (SpecFits l.spec l.packages) l.place l.fitting.items
