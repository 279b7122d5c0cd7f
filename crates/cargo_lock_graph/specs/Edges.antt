-- The graph of a lockfile's packages, and the edges at a node.
--
-- A graph has a node for each package, and an edge for each dependency of a package: it goes from
-- the package's node to the node of the package to which the dependency resolves. Edges are
-- followed in one of two directions: forwards, from a package to what it depends on, or backwards,
-- from a package to what depends on it.
-- Nodes and edges are those of `Tree::new` in `src/dependency/tree.rs` of the Rust crate
-- `cargo-lock` 11.0.1; how well a source has to match is this library's own rule.
use Rattle.std.specs.Prelude.{ℕ, ◌-◌, Bool, not, ◌==◌, List, [], ◌∷◌, Option, Some, None, length}
use Rattle.std.specs.Prelude.{map, reverse, take, slice_get}
use Rattle.std.specs.List.{filter, list_any, range_with_len}
use Rattle.std.specs.Ordering.{nat_cmp, on}
use Rattle.std.specs.declared.cmp.Ordering.{Ordering}
use Rattle.cargo_lock_parts.specs.Identity.{Identity, PackageData}
use Rattle.cargo_lock_graph.specs.declared.graph.EdgeDirection.{EdgeDirection}
use Rattle.cargo_lock_graph.specs.declared.graph.EdgeDirection.TheVariants.{Outgoing, Incoming}

-- an edge: the nodes from and to which it goes, and the dependency that it represents
pub record Edge : Type 0 where
  pub from : ℕ
  pub to : ℕ
  pub dependency : Identity

-- a graph: node k is the node of package k, and the edges are in the order in which they were added
pub record GraphData : Type 0 where
  pub packages : List PackageData
  pub edges : List Edge

-- the number of a direction in their order
abbrev pub direction_number : EdgeDirection → ℕ
direction_number Outgoing = 0
direction_number Incoming = 1

-- directions compare by their numbers
abbrev pub direction_cmp : EdgeDirection → EdgeDirection → Ordering
direction_cmp = on direction_number nat_cmp

-- the node at which an edge starts, in a direction
abbrev pub near_end : EdgeDirection → Edge → ℕ
near_end Outgoing e = e.from
near_end Incoming e = e.to

-- the node to which an edge leads, in a direction
abbrev pub far_end : EdgeDirection → Edge → ℕ
far_end Outgoing e = e.to
far_end Incoming e = e.from

-- the edge starts at the node
abbrev pub is_at : EdgeDirection → ℕ → Edge → Bool
is_at direction node e = near_end direction e == node

-- the edges that start at a node, newest first
abbrev pub edges_at : EdgeDirection → List Edge → ℕ → List Edge
edges_at direction edges node = reverse (filter (is_at direction node) edges)

-- the nodes to which these edges lead
abbrev pub far_ends : EdgeDirection → List Edge → ℕ → List ℕ
far_ends direction edges node = map (far_end direction) (edges_at direction edges node)

-- the nodes among these at which no edge starts
abbrev pub externals_among : EdgeDirection → List Edge → List ℕ → List ℕ
externals_among direction edges nodes = filter
    (λ node. not (list_any (is_at direction node) edges)) nodes

-- the nodes from this one on at which no edge starts, in ascending order
abbrev pub externals_from : EdgeDirection → GraphData → ℕ → List ℕ
externals_from direction graph first =
    externals_among direction graph.edges (range_with_len first (length graph.packages - first))

-- the nodes at which no edge starts, in ascending order
abbrev pub externals : EdgeDirection → GraphData → List ℕ
externals direction graph = externals_from direction graph 0

-- ---- an edge and the older ones

-- an edge, and those of the older edges that start where it starts, newest first
abbrev pub edge_and_older : EdgeDirection → List Edge → Option Edge → List Edge
edge_and_older direction older None = []
edge_and_older direction older (Some e) = e ∷ edges_at direction older (near_end direction e)

-- the edge at a place, and the older ones that start where it starts, newest first
abbrev pub edges_from : EdgeDirection → List Edge → Option ℕ → List Edge
edges_from direction edges None = []
edges_from direction edges (Some place) = edge_and_older direction (take place edges)
    (slice_get edges place)

-- the nodes to which these edges lead
abbrev pub far_ends_from : EdgeDirection → List Edge → Option ℕ → List ℕ
far_ends_from direction edges place = map (far_end direction) (edges_from direction edges place)
