-- How a graph stores the edges at each node: as a chain, from the newest to the next older one.
use Rattle.std.specs.Prelude.{◌≡◌, ℕ, ◌<◌, List, Option, Some, length, take, slice_get}
use Rattle.std.specs.List.{All}
use Rattle.cargo_lock_graph.specs.declared.graph.EdgeDirection.{EdgeDirection}
use Rattle.cargo_lock_graph.specs.Edges.{Edge, near_end, edges_at, edges_from}

-- Chains of the edges at each of `count` nodes. `newest` has for each node the place of its newest
-- edge, and `older` has for each edge the place of the next older edge at the same node. From
-- either of them on, the chain is the list of the edges there, newest first.
pub record AreChains (direction : EdgeDirection) (count : ℕ) (edges : List Edge)
    (newest older : List (Option ℕ)) : Type 0 where
  pub for_nodes : length newest ≡ count
  pub for_edges : length older ≡ length edges
  pub from_newest : (node : ℕ) (place : Option ℕ) → slice_get newest node ≡ Some place
      → edges_from direction edges place ≡ edges_at direction edges node
  pub from_older : (k : ℕ) (e : Edge) (place : Option ℕ) → slice_get edges k ≡ Some e
      → slice_get older k ≡ Some place
      → edges_from direction edges place ≡ edges_at direction (take k edges) (near_end direction e)
  -- each place in the chains is that of an edge, and an older edge has a lesser place
  pub within : (node place : ℕ) → slice_get newest node ≡ Some (Some place) → place < length edges
  pub earlier : (k place : ℕ) → slice_get older k ≡ Some (Some place) → place < k

-- both ends of each edge are nodes
abbrev pub AreBetween : ℕ → List Edge → Type 0
AreBetween count edges = All (λ e. (e.from < count) × (e.to < count)) edges
