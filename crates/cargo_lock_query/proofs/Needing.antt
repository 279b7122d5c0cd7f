-- The edges of a graph from both sides.
use Rattle.std.proofs.Common.{◌≡◌, ◌<◌, ℕ, true, List, ◌∷◌, ◌++◌, refl, subst, sym}
use Rattle.std.specs.List.{Contains, filter}
use Rattle.std.proofs.lemmas.Bool.{eq-eqb, eqb-true}
use Rattle.std.proofs.lemmas.List.Elements.{All-contains, Contains-append_right}
use Rattle.cargo_lock_graph.specs.Chains.{AreBetween}
use Rattle.cargo_lock_graph.specs.Drawing.{is_one_of}
use Rattle.cargo_lock_graph.specs.Edges.{Edge, GraphData, edges_at, far_end, far_ends, is_at}
use Rattle.cargo_lock_graph.specs.declared.graph.EdgeDirection.TheVariants.{Incoming, Outgoing}
use Rattle.lists.proofs.Members.{first-in, from-reverse, in-kept, in-reverse, kept-in}
use Rattle.cargo_lock_query.specs.Chains.{needs}
use Rattle.cargo_lock_query.proofs.Members.{in-one-of, map-one-of, one-of-in, one-of-map}

-- what needs a node has an edge that enters it
pub needer-edge : (graph : GraphData) (a b : ℕ) → is_one_of b (needs graph a) ≡ true
    → (e : Edge) × Contains (edges_at Incoming graph.edges b) e × (e.from ≡ a)
needer-edge graph a b h =
    let (e, among, ends) = one-of-map (far_end Outgoing) (edges_at Outgoing graph.edges a) b h in
    let (stored, leaves) = kept-in (is_at Outgoing a) graph.edges e (from-reverse (filter (is_at Outgoing a) graph.edges) e among) in
    (e, in-reverse (filter (is_at Incoming b) graph.edges) e (in-kept (is_at Incoming b) graph.edges e stored (eq-eqb e.to b ends)), eqb-true e.from a leaves)

pub edge-needer : (graph : GraphData) (b : ℕ) (e : Edge) → Contains (edges_at Incoming graph.edges b) e → is_one_of b (needs graph e.from) ≡ true
edge-needer graph b e h =
    let (stored, enters) = kept-in (is_at Incoming b) graph.edges e (from-reverse (filter (is_at Incoming b) graph.edges) e h) in
    map-one-of (far_end Outgoing) (edges_at Outgoing graph.edges e.from) b e
    (in-reverse (filter (is_at Outgoing e.from) graph.edges) e (in-kept (is_at Outgoing e.from) graph.edges e stored (eq-eqb e.from e.from refl)))
    (eqb-true e.to b enters)

-- what needs a node is at the other end of an edge that enters it
pub sources-needers : (graph : GraphData) (b k : ℕ) → Contains (far_ends Incoming graph.edges b) k → Contains (needs graph k) b
sources-needers graph b k h =
    let (e, among, from) = one-of-map (far_end Incoming) (edges_at Incoming graph.edges b) k (in-one-of k (far_ends Incoming graph.edges b) h) in
    one-of-in b (needs graph k) (subst (λ i. is_one_of b (needs graph i) ≡ true) from (edge-needer graph b e among))

pub needers-sources : (graph : GraphData) (b k : ℕ) → Contains (needs graph k) b → Contains (far_ends Incoming graph.edges b) k
needers-sources graph b k h =
    let (e, among, from) = needer-edge graph k b (in-one-of b (needs graph k) h) in
    one-of-in k (far_ends Incoming graph.edges b) (map-one-of (far_end Incoming) (edges_at Incoming graph.edges b) k e among from)

-- ---- the edges so far

-- the node is the start of one of these edges
abbrev pub Starts : List Edge → ℕ → Type 0
Starts edges k = (e : Edge) × Contains edges e × (e.from ≡ k)

-- the next edge starts at a node
pub start-within : (count : ℕ) (front : List Edge) (e : Edge) (rest left all : List Edge) → left ≡ e ∷ rest → front ++ left ≡ all
    → AreBetween count all → e.from < count
start-within count front e rest left all is joined between =
    let among : Contains (front ++ left) e = Contains-append_right front left e (subst (λ (es : List Edge). Contains es e) (sym is) (first-in e rest)) in
    (All-contains (λ (d : Edge). (d.from < count) × (d.to < count)) all e between (subst (λ (es : List Edge). Contains es e) joined among)).0
