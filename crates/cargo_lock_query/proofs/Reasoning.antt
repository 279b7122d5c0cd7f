-- Where the first chains begin.
use Rattle.std.proofs.Common.{◌+◌, ◌-◌, inl, inr, ℕ, List, length, not, refl, arith}
use Rattle.std.specs.List.{list_any, range_with_len}
use Rattle.std.specs.List.Sorted.{IsStrictlyIncreasing}
use Rattle.std.proofs.lemmas.List.Kept.{IsStrictlyIncreasing-filter}
use Rattle.std.proofs.lemmas.List.FromFn.{get_or-range_with_len, length-range_with_len}
use Rattle.cargo_lock_graph.specs.Edges.{GraphData, is_at}
use Rattle.cargo_lock_graph.specs.declared.graph.EdgeDirection.TheVariants.{Incoming}
use Rattle.cargo_lock_query.specs.Chains.{IsShortestChain, IsUnreached}
use Rattle.lists.specs.Places.{IsPlaces}
use Rattle.cargo_lock_query.specs.Starts.{AreChainStarts, IsMember, roots}

range-increasing : (a n : ℕ) → IsStrictlyIncreasing (range_with_len a n)
range-increasing a n k low =
    let long = length-range_with_len a n in
    let here = get_or-range_with_len a n k 0 (omega (arith, low, long)) in
    let next = get_or-range_with_len a n (k + 1) 0 (omega (arith, low, long)) in
    omega (arith, here, next)

-- the roots are ascending
pub roots-increasing : (graph : GraphData) → IsStrictlyIncreasing (roots graph)
roots-increasing graph =
    let count = length graph.packages in
    IsStrictlyIncreasing-filter (λ node. not (list_any (is_at Incoming node) graph.edges)) (range_with_len 0 (count - 0)) (range-increasing 0 (count - 0))

-- a chain from a root, or else one from a package without a source
pub starts-of-chain : (graph : GraphData) (to : ℕ) (chain : List ℕ) → IsShortestChain graph (roots graph) to chain → AreChainStarts graph to (roots graph)
starts-of-chain graph to chain shortest = inl ((chain, shortest.leads), refl)

pub starts-of-none : (graph : GraphData) (to : ℕ) (members : List ℕ) → IsUnreached graph (roots graph) to → IsPlaces (IsMember graph) (length graph.packages) members → AreChainStarts graph to members
starts-of-none graph to members none are = inr (none, are)
