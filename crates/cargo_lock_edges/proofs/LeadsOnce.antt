-- A dependency leads to one place, and packages have one list of edges.
use Rattle.std.proofs.Common.{◌≡◌, ◌≤◌, ◌∙◌, inl, inr, ℕ, List, [], ◌∷◌, Option, None, Some, ap, arith, nat_lt, slice_get, subst, sym}
use Rattle.std.specs.List.{AllZip}
use Rattle.std.proofs.lemmas.Bool.{cases_Bool, ltb-false, ltb-true}
use Rattle.std.proofs.lemmas.Option.{same_Some}
use Rattle.cargo_lock_parts.specs.Identity.{Identity, PackageData, identity_of}
use Rattle.cargo_lock_graph.specs.Edges.{Edge}
use Rattle.cargo_lock_graph.specs.Targets.{HasIdentity, HoldsOf, IsLastBelow, IsTarget, Link, MatchesAt, links}
use Rattle.cargo_lock_graph.proofs.EdgesOnce.{target-one}
use Rattle.cargo_lock_edges.specs.Laws.{LeadIsOne, NearestIsOne, OwnEndsAreOne}
use Rattle.cargo_lock_edges.specs.Leads.{IsInItsPlace}
use Rattle.cargo_lock_edges.specs.Nearest.{IsOwnMatch, IsOwnTarget}
use Rattle.cargo_lock_edges.specs.OwnGraph.{IsOwnEdgeOf}
use Rattle.cargo_lock_edges.proofs.NearestPlaces.{nearest-found}

-- ---- the last of the best

-- the place of the least rank, and the last one of it, where M tells the ranks of places
record IsBestOf (M : ℕ → ℕ → Type 0) (place : ℕ) : Type 0 where
  rank : ℕ
  fits : M place rank
  least : (k other : ℕ) → M k other → rank ≤ other
  last : (k : ℕ) → M k rank → k ≤ place

best-one : (M : ℕ → ℕ → Type 0) (j k : ℕ) → IsBestOf M j → IsBestOf M k → j ≡ k
best-one M j k a b =
    let low = a.least k b.rank b.fits in
    let high = b.least j a.rank a.fits in
    let same : a.rank ≡ b.rank = omega (arith, low, high) in
    let back = a.last k (subst (M k) (sym same) b.fits) in
    let forth = b.last j (subst (M j) same a.fits) in
    omega (arith, back, forth)

as-best : (packages : List PackageData) (d : Identity) (place : ℕ) → IsTarget packages d place
    → IsBestOf (MatchesAt packages d) place
as-best packages d place t = record {
  rank = t.rank;
  fits = t.fits;
  least = t.least;
  last = t.last;
}

own-as-best : (packages : List PackageData) (d : Identity) (place : ℕ)
    → IsOwnTarget packages d place → IsBestOf (IsOwnMatch packages d) place
own-as-best packages d place t = record {
  rank = t.rank;
  fits = t.fits;
  least = t.least;
  last = t.last;
}

pub nearest_is_one : NearestIsOne
nearest_is_one packages d j k (inl a) (inl b) = best-one (IsOwnMatch packages d) j k
    (own-as-best packages d j a) (own-as-best packages d k b)
nearest_is_one packages d j k (inl a) (inr (none, b)) = absurd (none j a.rank a.fits)
nearest_is_one packages d j k (inr (none, a)) (inl b) = absurd (none k b.rank b.fits)
nearest_is_one packages d j k (inr (none, a)) (inr (other, b)) = target-one packages d j k a b

-- ---- what stands for a package

stands-one : (packages : List PackageData) (replace : Option Identity) (near j k : ℕ)
    → IsInItsPlace packages replace near j → IsInItsPlace packages replace near k → j ≡ k
stands-one packages None near j k a b = sym a ∙ b
stands-one packages (Some r) near j k (inl a) (inl b) = nearest_is_one packages r j k a b
stands-one packages (Some r) near j k (inl a) (inr (lost, b)) = absurd (nearest-found packages r j a lost)
stands-one packages (Some r) near j k (inr (lost, a)) (inl b) = absurd (nearest-found packages r k b lost)
stands-one packages (Some r) near j k (inr (lost, a)) (inr (other, b)) = sym a ∙ b

pub lead_is_one : LeadIsOne
lead_is_one packages d j k a b =
    let same : a.near ≡ b.near = nearest_is_one packages d a.near b.near a.nearest b.nearest in
    let (p, here, mine) = a.stands in
    let (q, there, yours) = b.stands in
    let one : q ≡ p = same_Some q p (sym there ∙ ap (slice_get packages) (sym same) ∙ here) in
    let other : IsInItsPlace packages p.replace a.near k =
    subst (λ (r : PackageData). IsInItsPlace packages r.replace a.near k) one
    (subst (λ n. IsInItsPlace packages q.replace n k) (sym same) yours) in
    stands-one packages p.replace a.near j k mine other

-- ---- edges

last-one : (P : ℕ → Type 0) (bound : ℕ) (j k : ℕ) → IsLastBelow P bound (Some j)
    → IsLastBelow P bound (Some k) → j ≡ k
last-one P bound j k a b = elim (cases_Bool (nat_lt j k)) [
  | inl less ↦ absurd (a.2 k (ltb-true j k less) b.0 b.1)
  | inr more ↦ elim (cases_Bool (nat_lt k j)) [
    | inl other ↦ absurd (b.2 j (ltb-true k j other) a.0 a.1)
    | inr same ↦
        let low = ltb-false j k more in
        let high = ltb-false k j same in
        omega (arith, low, high)
  ]
]

ends-one : (packages : List PackageData) (ls : List Link) (es fs : List Edge)
    → AllZip (IsOwnEdgeOf packages) ls es → AllZip (IsOwnEdgeOf packages) ls fs
    → AllZip (λ (e f : Edge). (e.from ≡ f.from) × (e.to ≡ f.to)) es fs
ends-one packages [] [] [] a b = tt
ends-one packages [] [] (f ∷ fs) a b = absurd b
ends-one packages [] (e ∷ es) fs a b = absurd a
ends-one packages (l ∷ ls) [] fs a b = absurd a
ends-one packages (l ∷ ls) (e ∷ es) [] a b = absurd b
ends-one packages (l ∷ ls) (e ∷ es) (f ∷ fs) a b = (
  (
    last-one (HoldsOf (HasIdentity (identity_of l.from)) packages) _ e.from f.from a.0.from b.0.from,
    lead_is_one packages l.dependency e.to f.to a.0.to b.0.to,
  ),
  ends-one packages ls es fs a.1 b.1,
)

pub own_ends_are_one : OwnEndsAreOne
own_ends_are_one packages es fs a b = ends-one packages (links packages) es fs a b
