-- Which packages and edges a picture of a graph has.
use Rattle.std.specs.Prelude.{◌≡◌, ◌<◌, ◌⊎◌, ◌↔◌, ℕ, List, AllPairs}
use Rattle.std.specs.List.{Contains}
use Rattle.cargo_lock_graph.specs.Edges.{GraphData}
use Rattle.cargo_lock_query.specs.Chains.{needs}
use Rattle.cargo_lock_diagram.specs.declared.scene.Arrow.{Arrow}

-- one arrow comes before another: by the node that it leaves, and then by the node that it enters
abbrev pub ComesBefore : Arrow → Arrow → Type 0
ComesBefore one other = (one.from < other.from) ⊎ ((one.from ≡ other.from) × (one.to < other.to))

-- The arrows are the edges of the graph among these nodes: there is one from a node to another if
-- some edge leads from that node to the other. Each comes before the next, so none is there twice.
pub record AreEdgesAmong (graph : GraphData) (nodes : List ℕ) (arrows : List Arrow) : Type 0 where
  pub listed : (a b : ℕ) → Contains arrows (record { from = a; to = b })
      ↔ (Contains nodes a × Contains nodes b × Contains (needs graph a) b)
  pub in_order : AllPairs ComesBefore arrows
