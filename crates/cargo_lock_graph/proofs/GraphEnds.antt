-- The ends of the edges of a graph, and what follows of drawings.
use Rattle.std.proofs.Common.{◌≡◌, ℕ, suc, ◌-◌, ◌<◌, ◌≤◌, max, not, List, [], ◌∷◌, length, reverse, All, refl, ap, arith}
use Rattle.std.specs.List.{AllByRecursion, filter, list_any, range_with_len}
use Rattle.std.proofs.lemmas.Bool.{ne_eqb}
use Rattle.std.proofs.lemmas.List.Elements.{All-cons, All-filter, All-nil, recursion_from_All}
use Rattle.std.proofs.lemmas.List.FromFn.{get_or-range_with_len, length-range_with_len}
use Rattle.cargo_lock_graph.specs.declared.graph.EdgeDirection.{EdgeDirection}
use Rattle.cargo_lock_graph.specs.declared.graph.EdgeDirection.TheVariants.{Outgoing, Incoming}
use Rattle.cargo_lock_graph.specs.Chains.{AreBetween}
use Rattle.cargo_lock_graph.specs.Edges.{Edge, GraphData, edges_at, externals, is_at, near_end}

abbrev IsBetween : ℕ → Edge → Type 0
IsBetween count e = (e.from < count) × (e.to < count)

-- a number above both ends of each edge
pub above : List Edge → ℕ
above [] = 0
above (e ∷ edges) = max (suc (max e.from e.to)) (above edges)

pub between-above : (edges : List Edge) (count : ℕ) → above edges ≤ count → AreBetween count edges
unfolding above
between-above [] count high = All-nil (IsBetween count)
between-above (e ∷ edges) count high =
    All-cons (IsBetween count) e edges (omega (arith, high), omega (arith, high)) (between-above edges count (omega (arith, high)))

-- ---- the edges at a number that is no node

near-below : (d : EdgeDirection) (e : Edge) (count : ℕ) → IsBetween count e → near_end d e < count
near-below Outgoing e count h = h.0
near-below Incoming e count h = h.1

none-kept : (d : EdgeDirection) (count node : ℕ) (edges : List Edge) → AllByRecursion (IsBetween count) edges → count ≤ node → filter (is_at d node) edges ≡ []
none-kept d count node [] h high = refl
none-kept d count node (e ∷ edges) h high =
    let low = near-below d e count h.0 in
    rw (ne_eqb (near_end d e) node (λ same. omega (arith, low, high, same))) (none-kept d count node edges h.1 high)

pub no-edges-beyond : (d : EdgeDirection) (edges : List Edge) (count node : ℕ) → AreBetween count edges → count ≤ node → edges_at d edges node ≡ []
no-edges-beyond d edges count node between high =
    ap reverse (none-kept d count node edges (recursion_from_All (IsBetween count) edges between) high)

-- ---- the nodes at which no edge is

range-below : (count more : ℕ) → more ≡ count → All (λ k. k < count) (range_with_len 0 more)
range-below count more same i x low =
    let long = length-range_with_len 0 more in
    let is = get_or-range_with_len 0 more i x (omega (arith, low, long)) in
    omega (arith, is, low, long, same)

pub externals-below : (d : EdgeDirection) (graph : GraphData) → All (λ k. k < length graph.packages) (externals d graph)
externals-below d graph =
    let count = length graph.packages in
    All-filter (λ node. not (list_any (is_at d node) graph.edges)) (λ k. k < count) (range_with_len 0 (count - 0)) (range-below count (count - 0) (omega arith))
