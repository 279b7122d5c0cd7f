-- The graph of a lockfile's packages, as callers get it: edges, as dependencies lead in this
-- project's own commands, and the drawing of a package's tree.
use Rattle.std.specs.Prelude.{◌≡◌, ◌<◌, ◌≤◌, ℕ, Bool, List, length, map}
use Rattle.std.specs.List.{flat_map, range_with_len}
use Rattle.cargo_lock_parts.specs.Identity.{Identity}
use Rattle.cargo_lock_graph.specs.declared.drawing.entry.Entry.{Entry}
use Rattle.cargo_lock_graph.specs.declared.graph.EdgeDirection.{EdgeDirection}
use Rattle.cargo_lock_graph.specs.declared.graph.EdgeDirection.TheVariants.{Outgoing}
use Rattle.cargo_lock_graph.specs.Drawing.{IsDrawing}
use Rattle.cargo_lock_graph.specs.DrawingText.{drawing_text, standard_symbols}
use Rattle.cargo_lock_graph.specs.Edges.{Edge, edges_at, far_ends}
use Rattle.cargo_lock_graph.specs.Labels.{label_at}
use Rattle.cargo_lock_graph.specs.Targets.{AreEdgesOf, IsFirstLost, links}
use Rattle.cargo_lock_edges.specs.OwnGraph.{AreOwnEdges}
use Rattle.cargo_lock_encoding.specs.Lockfiles.{LockfileData}
use Rattle.cargo_lock_encoding.specs.Means.{TextMeans}
use Rattle.cargo_lock_c.specs.declared.edges.Edge.{Edge as CallersEdge}

-- the edges of a node as callers get them, newest first
abbrev pub node_edges : List Edge → ℕ → List CallersEdge
node_edges edges node = map (λ e. record { from = e.from; to = e.to })
    (edges_at Outgoing edges node)

-- the edges of each of the first nodes, as many as the number, in order
abbrev pub edge_list : List Edge → ℕ → List CallersEdge
edge_list edges count = flat_map (node_edges edges) (range_with_len 0 count)

-- the text is that of a lockfile, and these are the edges of its graph, node by node
abbrev pub IsEdgeList : List ℕ → List CallersEdge → Type 0
IsEdgeList text listed = (l : LockfileData) × (edges : List Edge) × TextMeans text l
    × AreOwnEdges l.packages edges × (listed ≡ edge_list edges (length l.packages))

-- the text is that of a lockfile, and no package matches some dependency
abbrev pub IsUnresolvedText : List ℕ → Type 0
IsUnresolvedText text = (l : LockfileData) × (d : Identity) × TextMeans text l
    × IsFirstLost l.packages (links l.packages) d

-- the text is that of a lockfile, and these bytes are the drawing of the tree of the package of
-- this number, along edges in this direction, with exact labels or short ones
abbrev pub IsTreeText : List ℕ → ℕ → EdgeDirection → Bool → List ℕ → Type 0
IsTreeText text number direction exact bytes =
    (l : LockfileData) × (edges : List Edge) × (entries : List Entry) × TextMeans text l
    × AreEdgesOf l.packages edges × (number < length l.packages)
    × IsDrawing (far_ends direction edges) number entries
    × (bytes ≡ drawing_text standard_symbols (label_at exact l.packages) entries)

-- the text is that of a lockfile without a package of this number
abbrev pub LacksPackage : List ℕ → ℕ → Type 0
LacksPackage text number = (l : LockfileData) × TextMeans text l × (length l.packages ≤ number)
