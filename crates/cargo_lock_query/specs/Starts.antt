-- The nodes at which chains of dependencies begin.
use Rattle.std.specs.Prelude.{◌≡◌, ◌⊎◌, ℕ, List, None, length}
use Rattle.cargo_lock_graph.specs.Edges.{GraphData, externals}
use Rattle.cargo_lock_graph.specs.Targets.{HoldsOf}
use Rattle.cargo_lock_graph.specs.declared.graph.EdgeDirection.TheVariants.{Incoming}
use Rattle.cargo_lock_query.specs.Chains.{IsChainOfNeeds, IsUnreached}
use Rattle.lists.specs.Places.{IsPlaces}

-- the roots: the nodes of the packages on which no package depends
abbrev pub roots : GraphData → List ℕ
roots graph = externals Incoming graph

-- the package of the node has no source, so it is one of the workspace
abbrev pub IsMember : GraphData → ℕ → Type 0
IsMember graph node = HoldsOf (λ p. p.source ≡ None) graph.packages node

-- a chain leads from one of these to the node
abbrev pub HasChainOfNeeds : GraphData → List ℕ → ℕ → Type 0
HasChainOfNeeds graph starts to = (chain : List ℕ) × IsChainOfNeeds graph starts to chain

-- Where the chains to a node begin: at the roots if a chain leads to it from one of them, and
-- otherwise, as on a cycle that no root leads to, at the packages without a source.
abbrev pub AreChainStarts : GraphData → ℕ → List ℕ → Type 0
AreChainStarts graph to starts = (HasChainOfNeeds graph (roots graph) to × (starts ≡ roots graph))
    ⊎ (IsUnreached graph (roots graph) to
    × IsPlaces (IsMember graph) (length graph.packages) starts)
