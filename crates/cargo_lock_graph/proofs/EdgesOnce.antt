-- The edges of packages are one list, and there are none where a dependency has no package.
use Rattle.std.proofs.Common.{◌≡◌, ◌<◌, inl, inr, ℕ, nat_lt, List, [], ◌∷◌, ◌++◌, Some, refl, sym, subst, ◌∙◌, arith}
use Rattle.std.specs.List.{AllZip}
use Rattle.std.proofs.lemmas.Bool.{cases_Bool, ltb-true, ltb-false}
use Rattle.cargo_lock_parts.specs.Identity.{Identity, PackageData, identity_of}
use Rattle.cargo_lock_graph.specs.Edges.{Edge}
use Rattle.cargo_lock_graph.specs.Targets.{EdgesAreOne, MatchesAt, HasIdentity, HoldsOf, IsEdgeOf, IsLastBelow, IsTarget, Link, LostHaveNoEdges, links}

one-order : (a b : ℕ) → ¬ (a < b) → ¬ (b < a) → a ≡ b
one-order a b p q = elim (cases_Bool (nat_lt a b)) [
  | inl less ↦ absurd (p (ltb-true a b less))
  | inr more ↦ elim (cases_Bool (nat_lt b a)) [
    | inl other ↦ absurd (q (ltb-true b a other))
    | inr same ↦ let h = ltb-false a b more in let k = ltb-false b a same in omega (arith, h, k)
  ]
]

pub last-one : (P : ℕ → Type 0) (bound j k : ℕ) → IsLastBelow P bound (Some j) → IsLastBelow P bound (Some k) → j ≡ k
last-one P bound j k a b = one-order j k (λ less. a.2 k less b.0 b.1) (λ more. b.2 j more a.0 a.1)

pub target-one : (packages : List PackageData) (d : Identity) (j k : ℕ) → IsTarget packages d j → IsTarget packages d k → j ≡ k
target-one packages d j k a b =
    let low = a.least k b.rank b.fits in
    let high = b.least j a.rank a.fits in
    let same : a.rank ≡ b.rank = omega (arith, low, high) in
    let back = a.last k (subst (λ r. MatchesAt packages d k r) (sym same) b.fits) in
    let forth = b.last j (subst (λ r. MatchesAt packages d j r) same a.fits) in
    omega (arith, back, forth)

edge-one : (packages : List PackageData) (l : Link) (e f : Edge) → IsEdgeOf packages l e → IsEdgeOf packages l f → e ≡ f
edge-one packages l e f a b =
    let from = last-one (HoldsOf (HasIdentity (identity_of l.from)) packages) _ e.from f.from a.from b.from in
    let to = target-one packages l.dependency e.to f.to a.to b.to in
    let dependency = a.dependency ∙ sym b.dependency in
    λ i. record { from = from i; to = to i; dependency = dependency i }

edges-one : (packages : List PackageData) (ls : List Link) (es fs : List Edge) → AllZip (IsEdgeOf packages) ls es → AllZip (IsEdgeOf packages) ls fs → es ≡ fs
edges-one packages [] [] [] a b = refl
edges-one packages [] [] (f ∷ fs) a b = absurd b
edges-one packages [] (e ∷ es) fs a b = absurd a
edges-one packages (l ∷ ls) [] fs a b = absurd a
edges-one packages (l ∷ ls) (e ∷ es) [] a b = absurd b
edges-one packages (l ∷ ls) (e ∷ es) (f ∷ fs) a b =
    let first = edge-one packages l e f a.0 b.0 in
    let others = edges-one packages ls es fs a.1 b.1 in
    λ i. first i ∷ others i

pub edges_are_one : EdgesAreOne
edges_are_one packages a b p q = edges-one packages (links packages) a b p q

no-edge : (packages : List PackageData) (front rest : List Link) (l : Link) (es : List Edge) → AllZip (IsEdgeOf packages) (front ++ l ∷ rest) es
    → (place : ℕ) × IsTarget packages l.dependency place
no-edge packages [] rest l [] h = absurd h
no-edge packages [] rest l (e ∷ es) h = (e.to, h.0.to)
no-edge packages (f ∷ front) rest l [] h = absurd h
no-edge packages (f ∷ front) rest l (e ∷ es) h = no-edge packages front rest l es h.1

pub lost_have_no_edges : LostHaveNoEdges
lost_have_no_edges packages d edges lost are =
    let l : Link = record { from = lost.from; dependency = d } in
    let found = no-edge packages lost.front lost.rest l edges (subst (λ ls. AllZip (IsEdgeOf packages) ls edges) lost.split are) in
    lost.none found.0 found.1.rank found.1.fits
