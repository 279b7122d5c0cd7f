-- The package to which a dependency resolves, and the edges of a lockfile's graph.
--
-- A dependency has the name and the version of its package. Its source may differ from that of the
-- package, as one at a branch differs from one at a commit: the dependency resolves to a package
-- with its name and version whose source matches best, and among several of these to the last.
use Rattle.std.specs.Prelude.{◌≡◌, ℕ, ◌<◌, ◌≤◌, List, ◌∷◌, ◌++◌, length, map, slice_get, Option}
use Rattle.std.specs.Prelude.{Some, None, string_bytes, codes}
use Rattle.std.specs.List.{All, AllZip, flat_map}
use Rattle.cargo_lock_parts.specs.declared.error.Error.{Error}
use Rattle.cargo_lock_parts.specs.declared.error.Error.TheVariants.{Resolution, Memory}
use Rattle.cargo_lock_parts.specs.Identity.{HasNameAndVersion, Identity, PackageData}
use Rattle.cargo_lock_parts.specs.Identity.{dependency_text, identity_key, identity_of}
use Rattle.cargo_lock_parts.specs.Rank.{rank_of}
use Rattle.cargo_lock_parts.specs.Source.{Source}
use Rattle.cargo_lock_graph.specs.Edges.{Edge}

-- ---- places

-- P holds for the package at the place
abbrev pub HoldsOf : (PackageData → Type 0) → List PackageData → ℕ → Type 0
HoldsOf P packages place = (p : PackageData) × (slice_get packages place ≡ Some p) × P p

-- the last of the places below a bound at which P holds, or none if it holds at none of them
abbrev pub IsLastBelow : (ℕ → Type 0) → ℕ → Option ℕ → Type 0
IsLastBelow P bound None = (k : ℕ) → k < bound → ¬ P k
IsLastBelow P bound (Some place) = (place < bound) × P place
    × ((k : ℕ) → place < k → k < bound → ¬ P k)

-- the package has the identity
abbrev pub HasIdentity : Identity → PackageData → Type 0
HasIdentity i p = identity_key (identity_of p) ≡ identity_key i

-- the last place of the packages with the identity, if there is one
abbrev pub IsLastWith : List PackageData → Identity → Option ℕ → Type 0
IsLastWith packages i place = IsLastBelow (HoldsOf (HasIdentity i) packages) (length packages) place

-- the identity is that of a package of the list, in every part: to the letter, not only by its key
abbrev pub IsOfPackage : List PackageData → Identity → Type 0
IsOfPackage packages i = (place : ℕ) × HoldsOf (λ p. identity_of p ≡ i) packages place

-- ---- targets

-- the rank of two sources that may be absent: an absent one matches only an absent one, with the
-- best rank
abbrev pub rank_between : Option Source → Option Source → Option ℕ
rank_between None None = Some 1
rank_between None (Some b) = None
rank_between (Some a) None = None
rank_between (Some a) (Some b) = rank_of a b

-- the package has the dependency's name and version, and a source that matches with this rank
pub record Matches (d : Identity) (rank : ℕ) (p : PackageData) : Type 0 where
  pub named : HasNameAndVersion d p
  pub ranked : rank_between d.source p.source ≡ Some rank

-- the package at the place matches the dependency with this rank
abbrev pub MatchesAt : List PackageData → Identity → ℕ → ℕ → Type 0
MatchesAt packages d place rank = HoldsOf (Matches d rank) packages place

-- the place of the package to which a dependency resolves: none that matches has a lesser rank, and
-- no later one has the same
pub record IsTarget (packages : List PackageData) (d : Identity) (place : ℕ) : Type 0 where
  pub rank : ℕ
  pub fits : MatchesAt packages d place rank
  pub least : (k other : ℕ) → MatchesAt packages d k other → rank ≤ other
  pub last : (k : ℕ) → MatchesAt packages d k rank → k ≤ place

-- no package matches the dependency
abbrev pub IsLost : List PackageData → Identity → Type 0
IsLost packages d = (place rank : ℕ) → ¬ MatchesAt packages d place rank

-- ---- edges

-- a package and one of its dependencies
pub record Link : Type 0 where
  pub from : PackageData
  pub dependency : Identity

-- the package with each of these dependencies
abbrev pub links_to : PackageData → List Identity → List Link
links_to p ds = map (λ d. record { from = p; dependency = d }) ds

-- the package with each of its dependencies
abbrev pub links_of : PackageData → List Link
links_of p = links_to p p.dependencies

-- each package with each of its dependencies, in order
abbrev pub links : List PackageData → List Link
links packages = flat_map links_of packages

-- the edge of a package's dependency: from the last place with the package's identity to the place
-- of the package to which the dependency resolves
pub record IsEdgeOf (packages : List PackageData) (link : Link) (e : Edge) : Type 0 where
  pub from : IsLastWith packages (identity_of link.from) (Some e.from)
  pub to : IsTarget packages link.dependency e.to
  pub dependency : e.dependency ≡ link.dependency

-- the edges of a lockfile's graph: one for each dependency of each package, in order
abbrev pub AreEdgesOf : List PackageData → List Edge → Type 0
AreEdgesOf packages edges = AllZip (IsEdgeOf packages) (links packages) edges

-- ---- errors

-- some package matches the link's dependency
abbrev pub HasTarget : List PackageData → Link → Type 0
HasTarget packages link = (place : ℕ) × IsTarget packages link.dependency place

-- the dependency is the first of these that no package matches
pub record IsFirstLost (packages : List PackageData) (among : List Link)
    (d : Identity) : Type 0 where
  pub front : List Link
  pub from : PackageData
  pub rest : List Link
  pub split : among ≡ front ++ record { from = from; dependency = d } ∷ rest
  pub found : All (HasTarget packages) front
  pub none : IsLost packages d

-- the text of the error for a dependency without a package
abbrev pub lost_text : Identity → List ℕ
lost_text d = codes "failed to find dependency: " ++ dependency_text d

-- the error is `Memory`, or no package matches the dependency and the text names it
abbrev pub IsLostFault : List PackageData → Identity → Error → Type 0
IsLostFault packages d (Resolution message) =
    IsLost packages d × (string_bytes message ≡ lost_text d)
IsLostFault packages d Memory = Unit {0}
IsLostFault packages d other = ⊥

-- the error is `Memory`, or no package matches some dependency among these, and the text names the
-- first one
abbrev pub IsUnresolved : List PackageData → List Link → Error → Type 0
IsUnresolved packages among (Resolution message) = (d : Identity) × IsFirstLost packages among d
    × (string_bytes message ≡ lost_text d)
IsUnresolved packages among Memory = Unit {0}
IsUnresolved packages among other = ⊥

-- ---- the laws of edges

-- packages have one list of edges
abbrev pub EdgesAreOne : Type 0
EdgesAreOne = (packages : List PackageData) (a b : List Edge) → AreEdgesOf packages a
    → AreEdgesOf packages b → a ≡ b

-- packages have none if some dependency has no package
abbrev pub LostHaveNoEdges : Type 0
LostHaveNoEdges = (packages : List PackageData) (d : Identity) (edges : List Edge)
    → IsFirstLost packages (links packages) d → ¬ AreEdgesOf packages edges
