-- Paths in a graph, and the nodes that they reach.
use Rattle.std.specs.Prelude.{◌≡◌, ℕ, true, List, [], ◌∷◌}
use Rattle.cargo_lock_graph.specs.Drawing.{is_one_of}

-- A path from a node over these nodes to the last of them: each is the far end of an edge of the
-- one before. A path over no nodes stays at its start.
abbrev pub IsPath : (ℕ → List ℕ) → ℕ → List ℕ → ℕ → Type 0
IsPath far a [] n = a ≡ n
IsPath far a (b ∷ bs) n = (is_one_of b (far a) ≡ true) × IsPath far b bs n

-- some path leads from the start to the node
abbrev pub IsReachable : (ℕ → List ℕ) → ℕ → ℕ → Type 0
IsReachable far start n = (path : List ℕ) × IsPath far start path n
