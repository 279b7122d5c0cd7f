-- What is known of chains from the roots and from the packages without a source. No public contract
-- cites this.
use Rattle.std.specs.Prelude.{ℕ, List, length}
use Rattle.cargo_lock_graph.specs.Edges.{GraphData}
use Rattle.cargo_lock_query.specs.FirstChains.{AreFirstChains, linked_by}
use Rattle.lists.specs.Places.{IsPlaces}
use Rattle.cargo_lock_query.specs.Starts.{IsMember, roots}
use Rattle.cargo_lock_query.specs.declared.reason.Reasons.{Reasons}

-- the first chains of the graph from its roots, and those from its packages without a source
pub record AreReasons (graph : GraphData) (reasons : Reasons) : Type 0 where
  pub members : List ℕ
  pub of_roots : AreFirstChains graph (roots graph) (linked_by reasons.from_roots)
  pub are_members : IsPlaces (IsMember graph) (length graph.packages) members
  pub of_members : AreFirstChains graph members (linked_by reasons.from_members)
