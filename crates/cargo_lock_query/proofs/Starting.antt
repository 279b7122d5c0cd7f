-- At which nodes chains begin.
use Rattle.std.proofs.Common.{◌≡◌, inl, inr, ℕ, List, [], ◌∷◌, Option, length, subst}
use Rattle.cargo_lock_graph.specs.Edges.{GraphData}
use Rattle.cargo_lock_query.specs.Chains.{IsUnreached}
use Rattle.lists.specs.Places.{IsPlaces}
use Rattle.cargo_lock_query.specs.Starts.{AreChainStarts, HasChainOfNeeds, IsMember, roots}
use Rattle.cargo_lock_query.specs.Steps.{AreStepsTo, IsOneCounted}

-- a chain leads from a node that has a count
counted-reached : (graph : GraphData) (to : ℕ) (steps : List (Option ℕ)) (nodes : List ℕ) → AreStepsTo graph to steps → IsOneCounted steps nodes → HasChainOfNeeds graph nodes to
counted-reached graph to steps nodes are (node, n, among, has) = let (path, leads, long) = are.sound node n has in (node ∷ path, (among, leads))

-- and none from nodes that have none
bare-unreached : (graph : GraphData) (to : ℕ) (steps : List (Option ℕ)) (nodes : List ℕ) → AreStepsTo graph to steps → ¬ IsOneCounted steps nodes → IsUnreached graph nodes to
bare-unreached graph to steps nodes are none [] h = h
bare-unreached graph to steps nodes are none (c ∷ cs) h = let (m, counted, most) = are.least c cs h.1 in none (c, m, h.0, counted)

pub starts-at-roots : (graph : GraphData) (to : ℕ) (steps : List (Option ℕ)) (nodes : List ℕ) → AreStepsTo graph to steps → nodes ≡ roots graph → IsOneCounted steps nodes → AreChainStarts graph to nodes
starts-at-roots graph to steps nodes are is counted =
    inl (subst (λ (ns : List ℕ). HasChainOfNeeds graph ns to) is (counted-reached graph to steps nodes are counted), is)

pub starts-at-members : (graph : GraphData) (to : ℕ) (steps : List (Option ℕ)) (nodes members : List ℕ) → AreStepsTo graph to steps → nodes ≡ roots graph → ¬ IsOneCounted steps nodes
    → IsPlaces (IsMember graph) (length graph.packages) members → AreChainStarts graph to members
starts-at-members graph to steps nodes members are is none places =
    inr (subst (λ (ns : List ℕ). IsUnreached graph ns to) is (bare-unreached graph to steps nodes are none), places)
