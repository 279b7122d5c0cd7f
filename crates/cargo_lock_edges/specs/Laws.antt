-- The laws of where dependencies lead.
use Rattle.std.specs.Prelude.{◌≡◌, ℕ, List, Some, slice_get}
use Rattle.std.specs.List.{AllZip}
use Rattle.cargo_lock_parts.specs.Identity.{Identity, PackageData}
use Rattle.cargo_lock_graph.specs.Edges.{Edge}
use Rattle.cargo_lock_graph.specs.Targets.{HoldsOf, IsFirstLost, IsLastWith, IsTarget, links}
use Rattle.cargo_lock_edges.specs.Leads.{LeadsToPackage}
use Rattle.cargo_lock_edges.specs.Nearest.{HasNoOwn, IsNearestPackage, IsOfOwnWords, IsOwnMatch}
use Rattle.cargo_lock_edges.specs.OwnGraph.{AreOwnEdges}

-- one package is nearest to a dependency
abbrev pub NearestIsOne : Type 0
NearestIsOne = (packages : List PackageData) (d : Identity) (j k : ℕ) → IsNearestPackage packages d j
    → IsNearestPackage packages d k → j ≡ k

-- a dependency leads to one package
abbrev pub LeadIsOne : Type 0
LeadIsOne = (packages : List PackageData) (d : Identity) (j k : ℕ) → LeadsToPackage packages d j
    → LeadsToPackage packages d k → j ≡ k

-- where a package of the dependency's own words matches it, the nearest one is of them
abbrev pub OwnWordsComeFirst : Type 0
OwnWordsComeFirst = (packages : List PackageData) (d : Identity) (place k rank : ℕ)
    → IsOwnMatch packages d k rank → IsNearestPackage packages d place
    → HoldsOf (IsOfOwnWords d) packages place

-- where none does, the nearest one is that to which the dependency resolves in a tree
abbrev pub OthersLeadAsInTrees : Type 0
OthersLeadAsInTrees = (packages : List PackageData) (d : Identity) (place : ℕ)
    → HasNoOwn packages d → IsNearestPackage packages d place → IsTarget packages d place

-- the last package with the dependency's identity is nearest
abbrev pub IdentityIsNearest : Type 0
IdentityIsNearest = (packages : List PackageData) (d : Identity) (place : ℕ)
    → IsLastWith packages d (Some place) → IsNearestPackage packages d place

-- where the nearest package is replaced by one that is there, the dependency leads to that one
abbrev pub ReplacedLeadOn : Type 0
ReplacedLeadOn = (packages : List PackageData) (d : Identity) (near place end : ℕ)
    (p : PackageData) (replacement : Identity) → slice_get packages near ≡ Some p
    → p.replace ≡ Some replacement → IsNearestPackage packages d near
    → IsNearestPackage packages replacement end → LeadsToPackage packages d place → place ≡ end

-- packages have one list of edges, by their ends
abbrev pub OwnEndsAreOne : Type 0
OwnEndsAreOne = (packages : List PackageData) (a b : List Edge) → AreOwnEdges packages a
    → AreOwnEdges packages b → AllZip (λ e f. (e.from ≡ f.from) × (e.to ≡ f.to)) a b

-- packages have none if some dependency has no package
abbrev pub LostHaveNoOwnEdges : Type 0
LostHaveNoOwnEdges = (packages : List PackageData) (d : Identity) (edges : List Edge)
    → IsFirstLost packages (links packages) d → ¬ AreOwnEdges packages edges
