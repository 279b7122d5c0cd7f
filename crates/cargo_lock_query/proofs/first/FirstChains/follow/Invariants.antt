use Rattle.std.proofs.Common.{◌≡◌, ℕ, List, Some, length, slice_get}
use Rattle.cargo_lock_query.specs.FirstChains.{AreFollowed, Entry, linked_by}
use Rattle.cargo_lock_query.proofs.Following.{AreFollowing}
use Rattle.cargo_lock_query.proofs.first.FirstChains.follow.Given as goal

-- what the chain goes on to is found as far as the ends so far
abbrev pub invariant-loop-end : goal.invariant-loop-end
invariant-loop-end l = (length l.self.places.items ≡ length l.fn.graph.packages)
    × ((starts : List ℕ) (f : AreFollowed l.fn.graph starts l.place (linked_by l.initial.self)) (last : Entry) → slice_get f.trail l.place ≡ Some last
    → AreFollowing l.fn.graph starts l.place last l.end-items l.end-index (linked_by l.self))
