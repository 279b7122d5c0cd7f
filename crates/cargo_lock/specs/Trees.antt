-- What contracts see of a tree.
use Rattle.std.specs.Prelude.{ℕ, List}
use Rattle.cargo_lock_parts.specs.Identity.{Identity}
use Rattle.cargo_lock_graph.specs.Edges.{GraphData}

-- the graph of a tree, and its nodes by the identities of their packages, in ascending order
pub record TreeData : Type 0 where
  pub graph : GraphData
  pub nodes : List (Identity × ℕ)
