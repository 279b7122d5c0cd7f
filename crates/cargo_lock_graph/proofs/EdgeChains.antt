-- What the chains of a graph say of the edges at a node.
use Rattle.std.proofs.Common.{◌≡◌, ◌<◌, ◌≤◌, ◌+◌, ◌-◌, inl, inr, ℕ, suc, Bool, true, false, nat_eq, List, [], ◌∷◌, length, get_or, reverse, slice_get, unwrap_or, Option, Some, None, IfSome, is_some, refl, sym, ap, ◌∙◌, arith}
use Rattle.std.specs.List.{All, filter, list_any, range_with_len}
use Rattle.std.proofs.lemmas.Bool.{cases_Bool}
use Rattle.std.proofs.lemmas.Bool.Decides.{Decides-eqb}
use Rattle.std.proofs.lemmas.List.{length-reverse}
use Rattle.std.proofs.lemmas.Option.{slice_get_cases}
use Rattle.cargo_lock_graph.specs.declared.graph.EdgeDirection.{EdgeDirection}
use Rattle.cargo_lock_graph.specs.declared.graph.EdgeDirection.TheVariants.{Outgoing, Incoming}
use Rattle.cargo_lock_graph.specs.Chains.{AreBetween, AreChains}
use Rattle.cargo_lock_graph.specs.Edges.{Edge, GraphData, near_end, is_at, edges_at, edges_from, externals_among, externals_from}

-- ---- filters

pub filter_none : {X : Type 0} (p : X → Bool) (xs : List X) → All (λ x. p x ≡ false) xs → filter p xs ≡ []
filter_none p [] h = refl
filter_none p (x ∷ xs) h =
    let first : p x ≡ false = h 0 x (omega arith) in
    rw first (filter_none p xs (λ k d low. h (suc k) d (omega (arith, low))))

is_any : {X : Type 0} → List X → Bool
is_any [] = false
is_any (x ∷ xs) = true

is_any-length : {X : Type 0} (xs ys : List X) → length xs ≡ length ys → is_any xs ≡ is_any ys
unfolding is_any
is_any-length [] [] e = refl
is_any-length [] (y ∷ ys) e = absurd (omega (arith, e))
is_any-length (x ∷ xs) [] e = absurd (omega (arith, e))
is_any-length (x ∷ xs) (y ∷ ys) e = refl

list_any-filter : {X : Type 0} (p : X → Bool) (xs : List X) → list_any p xs ≡ is_any (filter p xs)
unfolding is_any
list_any-filter p [] = refl
list_any-filter p (x ∷ xs) = elim (cases_Bool (p x)) [
  | inl hit ↦ rw hit refl
  | inr miss ↦ rw miss (list_any-filter p xs)
]

list_any-at : (direction : EdgeDirection) (edges : List Edge) (node : ℕ) → list_any (is_at direction node) edges ≡ is_any (edges_at direction edges node)
list_any-at direction edges node =
    let found = filter (is_at direction node) edges in
    list_any-filter (is_at direction node) edges ∙ sym (is_any-length (reverse found) found (length-reverse found))

-- ---- a number that is no node

near-below : (direction : EdgeDirection) (count : ℕ) (e : Edge) → (e.from < count) × (e.to < count) → near_end direction e < count
near-below Outgoing count e h = h.0
near-below Incoming count e h = h.1

differ : (a b : ℕ) → a < b → nat_eq a b ≡ false
differ a b h = elim (cases_Bool (nat_eq a b)) [
  | inl same ↦ absurd (let e : a ≡ b = (Decides-eqb a b).0 same in omega (arith, e))
  | inr other ↦ other
]

none-past : (direction : EdgeDirection) (count node : ℕ) (edges : List Edge) → AreBetween count edges → count ≤ node
    → All (λ e. is_at direction node e ≡ false) edges
none-past direction count node edges h past = λ k d low.
    let e = get_or edges k d in
    let below = near-below direction count e (h k d low) in
    differ (near_end direction e) node (omega (arith, below, past))

edges_at-past : (direction : EdgeDirection) (count node : ℕ) (edges : List Edge) → AreBetween count edges → count ≤ node
    → edges_at direction edges node ≡ []
edges_at-past direction count node edges h past =
    ap reverse (filter_none (is_at direction node) edges (none-past direction count node edges h past))

-- ---- the newest_edge edge

pub newest_edge-edges : (direction : EdgeDirection) (count : ℕ) (edges : List Edge) (newest_edge older_edge : List (Option ℕ)) (node : ℕ) (place : Option ℕ)
    → AreBetween count edges → AreChains direction count edges newest_edge older_edge
    → place ≡ unwrap_or (slice_get newest_edge node) None
    → edges_from direction edges place ≡ edges_at direction edges node
newest_edge-edges direction count edges newest_edge older_edge node place between chains is =
    elim (slice_get_cases newest_edge node).1 [
      | inl (found, low, w, same) ↦
          let e : place ≡ found = is ∙ ap (λ o. unwrap_or o None) w in
          chains.from_newest node place (w ∙ ap Some (sym e))
      | inr w ↦
          let e : place ≡ None = is ∙ ap (λ o. unwrap_or o None) w.1 in
          let long = chains.for_nodes in
          let past : count ≤ node = omega (arith, w.0, long) in
          ap (edges_from direction edges) e ∙ sym (edges_at-past direction count node edges between past)
    ]

-- a node has an edge exactly where its newest_edge one is there
pub any-newest_edge : (direction : EdgeDirection) (edges : List Edge) (node : ℕ) (place : Option ℕ)
    → edges_from direction edges place ≡ edges_at direction edges node → IfSome place (λ k. k < length edges)
    → list_any (is_at direction node) edges ≡ is_some place
unfolding is_any
any-newest_edge direction edges node None same within =
    list_any-at direction edges node ∙ ap is_any (sym same)
any-newest_edge direction edges node (Some k) same within =
    elim (slice_get_cases edges k).1 [
      | inl (e, low, w, is) ↦
          list_any-at direction edges node ∙ ap is_any (sym same) ∙ rw w refl
      | inr w ↦ absurd (omega (arith, w.0, within))
    ]

-- ---- numbers in a row

pub range-next : (a n : ℕ) → a < n → range_with_len a (n - a) ≡ a ∷ range_with_len (a + 1) (n - (a + 1))
range-next a n h =
    let e : n - a ≡ suc (n - (a + 1)) = omega arith in
    ap (range_with_len a) e

pub range-end : (a n : ℕ) → n ≤ a → range_with_len a (n - a) ≡ []
range-end a n h =
    let e : n - a ≡ 0 = omega arith in
    ap (range_with_len a) e

-- ---- nodes without edges

pub external-passed : (direction : EdgeDirection) (graph : GraphData) (node : ℕ) (place : Option ℕ) → node < length graph.packages
    → list_any (is_at direction node) graph.edges ≡ is_some place → is_some place ≡ true
    → externals_from direction graph node ≡ externals_from direction graph (node + 1)
external-passed direction graph node place low any there =
    ap (externals_among direction graph.edges) (range-next node (length graph.packages) low) ∙ rw (any, there) refl

pub external-found : (direction : EdgeDirection) (graph : GraphData) (node : ℕ) (place : Option ℕ) → node < length graph.packages
    → list_any (is_at direction node) graph.edges ≡ is_some place → is_some place ≡ false
    → externals_from direction graph node ≡ node ∷ externals_from direction graph (node + 1)
external-found direction graph node place low any there =
    ap (externals_among direction graph.edges) (range-next node (length graph.packages) low) ∙ rw (any, there) refl

pub externals-end : (direction : EdgeDirection) (graph : GraphData) (node : ℕ) → length graph.packages ≤ node
    → externals_from direction graph node ≡ []
externals-end direction graph node past =
    ap (externals_among direction graph.edges) (range-end node (length graph.packages) past)

-- an iterator that has given the first of what was left has one less left
pub first-goes : {X : Type 0} (old new : List X) (x : X) → old ≡ x ∷ new → length new < length old
first-goes old new x e = let l = ap length e in omega (arith, l)
