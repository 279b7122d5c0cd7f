use Rattle.lists.specs.Places.{IsPlaces}
use Rattle.cargo_lock_query.specs.Starts.{IsMember}
use Rattle.cargo_lock_query.proofs.reason.members.Given as goal

-- the places so far
abbrev pub invariant-loop-place : goal.invariant-loop-place
invariant-loop-place l = IsPlaces (IsMember l.graph) l.place l.members.items
