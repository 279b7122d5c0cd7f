-- Chains of dependencies, and which of them are the shortest.
--
-- A chain is the list of its nodes, from the root to the node that is asked about. It is a path
-- along the edges of the graph.
use Rattle.std.specs.Prelude.{◌≡◌, ◌<◌, ◌⊎◌, ℕ, List, [], ◌∷◌, length}
use Rattle.std.specs.List.{Contains}
use Rattle.cargo_lock_graph.specs.Edges.{GraphData, far_ends}
use Rattle.cargo_lock_graph.specs.Paths.{IsPath}
use Rattle.cargo_lock_graph.specs.declared.graph.EdgeDirection.TheVariants.{Outgoing}

-- the nodes that a node needs: those to which its edges lead
abbrev pub needs : GraphData → ℕ → List ℕ
needs graph node = far_ends Outgoing graph.edges node

-- a chain from one of the roots to a node: its first node is a root, each other node is one that
-- the node before it needs, and the last is the node
abbrev pub IsChainOfNeeds : GraphData → List ℕ → ℕ → List ℕ → Type 0
IsChainOfNeeds graph roots to [] = ⊥
IsChainOfNeeds graph roots to (root ∷ path) =
    Contains roots root × IsPath (needs graph) root path to

-- one list of places comes no later than another: where they first differ it has the lesser place,
-- or it ends first
abbrev pub IsNoLater : List ℕ → List ℕ → Type 0
IsNoLater [] ys = Unit {0}
IsNoLater (x ∷ xs) [] = ⊥
IsNoLater (x ∷ xs) (y ∷ ys) = (x < y) ⊎ ((x ≡ y) × IsNoLater xs ys)

-- one list is shorter than another, or as long and no later by its places
abbrev pub IsNoWorse : List ℕ → List ℕ → Type 0
IsNoWorse xs ys = (length xs < length ys) ⊎ ((length xs ≡ length ys) × IsNoLater xs ys)

-- a chain from a root to a node than which none has fewer nodes, and the first of those by places
pub record IsShortestChain (graph : GraphData) (roots : List ℕ) (to : ℕ)
    (chain : List ℕ) : Type 0 where
  pub leads : IsChainOfNeeds graph roots to chain
  pub best : (other : List ℕ) → IsChainOfNeeds graph roots to other → IsNoWorse chain other

-- no chain leads from a root to the node
abbrev pub IsUnreached : GraphData → List ℕ → ℕ → Type 0
IsUnreached graph roots to = (chain : List ℕ) → ¬ IsChainOfNeeds graph roots to chain

-- the chains from each root that leads to the node, one for each and in the roots' order
abbrev pub AreChainsOfEach : GraphData → ℕ → List ℕ → List (List ℕ) → Type 0
AreChainsOfEach graph to [] chains = chains ≡ []
AreChainsOfEach graph to (root ∷ roots) chains =
    (IsUnreached graph (root ∷ []) to × AreChainsOfEach graph to roots chains)
    ⊎ ((chain : List ℕ) × (others : List (List ℕ)) × (chains ≡ chain ∷ others)
    × IsShortestChain graph (root ∷ []) to chain × AreChainsOfEach graph to roots others)
