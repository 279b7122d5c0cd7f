-- The graph of packages for this project's own commands.
use Rattle.std.specs.Prelude.{◌≡◌, List, Some}
use Rattle.std.specs.List.{AllZip}
use Rattle.cargo_lock_parts.specs.Identity.{PackageData, identity_of}
use Rattle.cargo_lock_graph.specs.Edges.{Edge, GraphData}
use Rattle.cargo_lock_graph.specs.Targets.{IsLastWith, Link, links}
use Rattle.cargo_lock_edges.specs.Leads.{LeadsToPackage}

-- the edge of a package's dependency: from the last place with the package's identity to the place
-- to which the dependency leads
pub record IsOwnEdgeOf (packages : List PackageData) (link : Link) (e : Edge) : Type 0 where
  pub from : IsLastWith packages (identity_of link.from) (Some e.from)
  pub to : LeadsToPackage packages link.dependency e.to

-- the edges: one for each dependency of each package, in order
abbrev pub AreOwnEdges : List PackageData → List Edge → Type 0
AreOwnEdges packages edges = AllZip (IsOwnEdgeOf packages) (links packages) edges

-- the second package is the first one, but for how its dependencies are written
abbrev pub IsAlikeButForWords : PackageData → PackageData → Type 0
IsAlikeButForWords p q = q ≡ record p { dependencies = q.dependencies }

-- The graph of packages: the edges are as they lead, and the nodes are the packages, but for how
-- their dependencies are written.
pub record IsOwnGraph (packages : List PackageData) (graph : GraphData) : Type 0 where
  pub nodes : AllZip IsAlikeButForWords packages graph.packages
  pub edges : AreOwnEdges packages graph.edges
