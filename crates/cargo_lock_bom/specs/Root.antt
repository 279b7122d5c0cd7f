-- The root of a bill: one package, the packages of the workspace together, or nothing.
use Rattle.std.specs.Prelude.{◌≡◌, ℕ, Bool, true, false, not, ◌&&◌, ◌==◌, ◌↔◌, List, Option, Some}
use Rattle.std.specs.Prelude.{◌<◌, None, is_none, length, slice_get}
use Rattle.std.specs.List.{Contains, list_any}
use Rattle.cargo_lock_parts.specs.Identity.{PackageData}
use Rattle.cargo_lock_graph.specs.declared.graph.EdgeDirection.TheVariants.{Incoming, Outgoing}
use Rattle.cargo_lock_graph.specs.Edges.{Edge, GraphData, far_ends}
use Rattle.cargo_lock_graph.specs.Paths.{IsReachable}
use Rattle.cargo_lock_bom.specs.declared.options.Listed.{Listed}
use Rattle.cargo_lock_bom.specs.declared.options.Listed.TheVariants.{All, Reached}
use Rattle.cargo_lock_bom.specs.declared.root.Root.{Root}
use Rattle.cargo_lock_bom.specs.declared.root.Root.TheVariants.{Package, Workspace, Nothing}

-- there is a package, and it has no source
abbrev pub lacks_source : Option PackageData → Bool
lacks_source None = false
lacks_source (Some p) = is_none p.source

-- the package of the node is one of the workspace: it has no source
abbrev pub is_member : List PackageData → ℕ → Bool
is_member packages node = lacks_source (slice_get packages node)

-- an edge leads to the node from another one
abbrev pub is_needed : List Edge → ℕ → Bool
is_needed edges node = list_any (λ other. not (other == node)) (far_ends Incoming edges node)

-- the package is one of the workspace, and no other package needs it
abbrev pub is_application : GraphData → ℕ → Bool
is_application graph node = is_member graph.packages node && not (is_needed graph.edges node)

-- edges lead from one node to the other, over any number of nodes between them
abbrev pub EdgesLeadTo : GraphData → ℕ → ℕ → Type 0
EdgesLeadTo graph a b = IsReachable (far_ends Outgoing graph.edges) a b

-- edges lead from the node to each package of the workspace
abbrev pub LeadsToMembers : GraphData → ℕ → Type 0
LeadsToMembers graph node = (k : ℕ) → is_member graph.packages k ≡ true → EdgesLeadTo graph node k

-- The bill lists the package of the node: with `Reached`, if the caller gives a root, where edges
-- lead from this to it, and otherwise always.
abbrev pub IsInBill : GraphData → Listed → Option ℕ → ℕ → Type 0
IsInBill graph All given node = Unit {0}
IsInBill graph Reached None node = Unit {0}
IsInBill graph Reached (Some root) node = EdgesLeadTo graph root node

-- no edge leads from what is listed to what is not
abbrev pub ListedIsClosed : Type 0
ListedIsClosed = (graph : GraphData) (listed : Listed) (given : Option ℕ) (a b : ℕ)
    → IsInBill graph listed given a → Contains (far_ends Outgoing graph.edges a) b
    → IsInBill graph listed given b

-- the package of the workspace that no other package needs, and that leads to each package of the
-- workspace
pub record IsTop (graph : GraphData) (node : ℕ) : Type 0 where
  pub application : is_application graph node ≡ true
  pub leads : LeadsToMembers graph node

-- The root of the bill of a graph: the node that the caller gave, or else the top of the workspace,
-- or else all packages of the workspace, or else, if there are none, nothing.
abbrev pub IsRootOf : GraphData → Option ℕ → Root → Type 0
IsRootOf graph (Some node) root = root ≡ Package node
IsRootOf graph None (Package node) = IsTop graph node
IsRootOf graph None Workspace = ((k : ℕ) → ¬ IsTop graph k)
    × ((k : ℕ) × (is_member graph.packages k ≡ true))
IsRootOf graph None Nothing = (k : ℕ) → is_member graph.packages k ≡ false

-- the root is the package of the node
abbrev pub is_root_at : Root → ℕ → Bool
is_root_at (Package own) node = own == node
is_root_at Workspace node = false
is_root_at Nothing node = false

-- ---- what the root leads to

-- some package of the workspace leads to the node, so the package of the node is not an orphan
abbrev pub IsBelowWorkspace : GraphData → ℕ → Type 0
IsBelowWorkspace graph node =
    (m : ℕ) × (is_member graph.packages m ≡ true) × EdgesLeadTo graph m node

-- the root leads to the node; a root that is the workspace has edges to each package of the
-- workspace
abbrev pub IsBelowRoot : GraphData → Root → ℕ → Type 0
IsBelowRoot graph (Package root) node = EdgesLeadTo graph root node
IsBelowRoot graph Workspace node = IsBelowWorkspace graph node
IsBelowRoot graph Nothing node = ⊥

-- if the caller gives no root, that of the bill leads to exactly the packages that are not orphans
abbrev pub LeadsToAllButOrphans : GraphData → Root → Type 0
LeadsToAllButOrphans graph root = (k : ℕ) → IsBelowRoot graph root k ↔ IsBelowWorkspace graph k

-- there is at most one top
abbrev pub TopIsOne : Type 0
TopIsOne = (graph : GraphData) (a b : ℕ) → IsTop graph a → IsTop graph b → a ≡ b

-- the root is not a node beyond the packages
abbrev pub IsWithin : List PackageData → Root → Type 0
IsWithin packages (Package node) = node < length packages
IsWithin packages Workspace = Unit {0}
IsWithin packages Nothing = Unit {0}
