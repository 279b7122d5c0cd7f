-- The packages that need a package directly.
use Rattle.std.specs.Prelude.{ℕ, List, length}
use Rattle.std.specs.List.{Contains}
use Rattle.cargo_lock_graph.specs.Edges.{GraphData}
use Rattle.cargo_lock_query.specs.Chains.{needs}
use Rattle.lists.specs.Places.{IsPlaces}

-- the nodes with an edge to the node, each once and ascending
abbrev pub AreNeeders : GraphData → ℕ → List ℕ → Type 0
AreNeeders graph node needers =
    IsPlaces (λ k. Contains (needs graph k) node) (length graph.packages) needers
