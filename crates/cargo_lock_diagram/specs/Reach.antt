-- The nodes to which edges lead from some nodes.
use Rattle.std.specs.Prelude.{ℕ, List}
use Rattle.std.specs.List.{Contains}
use Rattle.cargo_lock_graph.specs.Paths.{IsReachable}

-- edges lead to the node from one of these nodes, over any number of nodes between them; `far`
-- gives the far ends of a node's edges
abbrev pub IsReachableFromSome : (ℕ → List ℕ) → List ℕ → ℕ → Type 0
IsReachableFromSome far starts node =
    (start : ℕ) × Contains starts start × IsReachable far start node
