use Rattle.std.proofs.Common.{◌≡◌, ℕ, List, Some, slice_get}
use Rattle.cargo_lock_graph.specs.Edges.{GraphData}
use Rattle.cargo_lock_query.specs.FirstChains.{Entry, IsTrail, linked_by}
use Rattle.cargo_lock_query.proofs.Following.{IsBack, places_left}
use Rattle.cargo_lock_query.proofs.first.FirstChains.chain_at.Given as goal

-- the nodes so far are the last ones of the chain
abbrev pub invariant-walk : goal.invariant-walk
invariant-walk l = (graph : GraphData) (starts : List ℕ) (trail : List Entry) (e : Entry) → IsTrail graph starts (linked_by l.self) trail → slice_get trail l.fn.place ≡ Some e
    → IsBack trail e.chain l.next l.chain.items

abbrev pub decreases-walk : goal.decreases-walk
decreases-walk l = places_left l.next
