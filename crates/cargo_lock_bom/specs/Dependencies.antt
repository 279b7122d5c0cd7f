-- What each package depends on: the edges of the graph.
-- The members are those of `dependency` in the JSON schema of CycloneDX 1.6.
use Rattle.std.specs.Prelude.{◌≡◌, ℕ, ◌<◌, ◌↔◌, List, [], All, Contains, Option, Some, None, map}
use Rattle.std.specs.Prelude.{◌∷◌, ◌++◌, true, length, codes, slice_get}
use Rattle.std.specs.List.{AllZip}
use Rattle.std.specs.List.Sorted.{IsStrictlyIncreasing}
use Rattle.serde_json.specs.Data.{Data, string, array, object, member, no_members}
use Rattle.serde_json.specs.View.{items_of}
use Rattle.cargo_lock_parts.specs.Identity.{PackageData}
use Rattle.cargo_lock_graph.specs.declared.graph.EdgeDirection.TheVariants.{Outgoing}
use Rattle.cargo_lock_graph.specs.Edges.{GraphData, far_ends}
use Rattle.cargo_lock_bom.specs.declared.root.Root.{Root}
use Rattle.cargo_lock_bom.specs.declared.root.Root.TheVariants.{Package, Workspace, Nothing}
use Rattle.lists.specs.Places.{IsPlaces}
use Rattle.cargo_lock_bom.specs.References.{package_reference, workspace_reference}
use Rattle.cargo_lock_bom.specs.Options.{OptionsData}
use Rattle.cargo_lock_bom.specs.Root.{IsInBill, is_member}

-- the nodes to which edges lead from a node, ascending, each listed once
pub record AreEdgeTargets (graph : GraphData) (node : ℕ) (targets : List ℕ) : Type 0 where
  pub ascending : IsStrictlyIncreasing targets
  pub are_nodes : All (λ k. k < length graph.packages) targets
  pub told : (k : ℕ) → Contains targets k ↔ Contains (far_ends Outgoing graph.edges node) k

-- the text that refers to a package, if there is one
abbrev pub reference_if : Option PackageData → List ℕ
reference_if None = []
reference_if (Some p) = package_reference p

-- the text that refers to the package of a node
abbrev pub node_reference : List PackageData → ℕ → List ℕ
node_reference packages node = reference_if (slice_get packages node)

-- the entry of a text: that text, and those of the packages of some nodes
unfoldable pub entry_with : List PackageData → List ℕ → List ℕ → Data
entry_with packages own targets = object
    (member (codes "dependsOn")
    (array (items_of (map (λ k. string (node_reference packages k)) targets)))
    (member (codes "ref") (string own) no_members))

-- the entry of a node: the text of its package, and those of the packages of other nodes
abbrev pub entry_of : List PackageData → ℕ → List ℕ → Data
entry_of packages node targets = entry_with packages (node_reference packages node) targets

-- the entry of a node of the graph
pub record IsNodeEntry (graph : GraphData) (node : ℕ) (d : Data) : Type 0 where
  pub targets : List ℕ
  pub are_targets : AreEdgeTargets graph node targets
  pub is : d ≡ entry_of graph.packages node targets

-- the entry of the workspace: it depends on each package of the workspace
pub record IsWorkspaceEntry (packages : List PackageData) (d : Data) : Type 0 where
  pub members : List ℕ
  pub are_members : IsPlaces (λ k. is_member packages k ≡ true) (length packages) members
  pub is : d ≡ entry_with packages workspace_reference members

-- the entries of a root that is not a package
abbrev pub AreOwnEntries : List PackageData → Root → List Data → Type 0
AreOwnEntries packages (Package node) own = own ≡ []
AreOwnEntries packages Workspace own = (d : Data) × IsWorkspaceEntry packages d × (own ≡ d ∷ [])
AreOwnEntries packages Nothing own = own ≡ []

-- the entries of these nodes, in order, and then one for the workspace, if that is the root
pub record AreEntries (graph : GraphData) (root : Root) (nodes : List ℕ) (entries : List Data)
    : Type 0 where
  pub of_nodes : List Data
  pub own : List Data
  pub are_of_nodes : AllZip (IsNodeEntry graph) nodes of_nodes
  pub are_own : AreOwnEntries graph.packages root own
  pub are : entries ≡ of_nodes ++ own

-- the entries of the nodes that are listed, and of the workspace, if that is the root
pub record AreBillEntries (graph : GraphData) (options : OptionsData) (root : Root)
    (entries : List Data) : Type 0 where
  pub nodes : List ℕ
  pub are_nodes : IsPlaces (IsInBill graph options.listed options.root) (length graph.packages)
      nodes
  pub are_entries : AreEntries graph root nodes entries
