use Rattle.std.proofs.Common.{◌≤◌, length}
use Rattle.cargo_lock_edges.specs.Likeness.{IsLikeAt}
use Rattle.cargo_lock_edges.proofs.LastPlaces.{IsFreeFrom}
use Rattle.cargo_lock_edges.proofs.groups.Groups.last_among.Given as goal

-- no package at the places behind is like the dependency
abbrev pub invariant-loop-after : goal.invariant-loop-after
invariant-loop-after l = record {
  within : l.after ≤ length l.places;
  free : IsFreeFrom (IsLikeAt l.self.packages l.dependency l.likeness) l.places l.after;
}

abbrev pub decreases-loop-after : goal.decreases-loop-after
decreases-loop-after l = l.after
