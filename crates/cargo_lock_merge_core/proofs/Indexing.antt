-- Places and their indices.
use Rattle.std.proofs.Common.{◌≡◌, ◌<◌, ◌≤◌, inl, inr, ℕ, true, false, List, [], ◌∷◌, length, get_or, slice_get, Some, Result, Ok, Err, ◌↔◌, refl, sym, ap, subst, ◌∙◌, arith, MatchOption}
use Rattle.std.specs.Prelude.{option_map}
use Rattle.std.specs.List.{Contains}
use Rattle.std.specs.List.Sorted.{IsBinarySearchResult, IsStrictlyIncreasing}
use Rattle.std.specs.Ordering.{nat_cmp}
use Rattle.std.specs.Result.{result_ok}
use Rattle.std.proofs.lemmas.Bool.{cases_eq, cases_lt, cases_order, false≢true}
use Rattle.std.proofs.lemmas.List.{get_or_default}
use Rattle.std.proofs.lemmas.List.Sorted.{searched}
use Rattle.std.proofs.lemmas.Option.{get_or_from_slice_get, slice_get-get_or, slice_get-map, slice_get_within, same_Some}
use Rattle.lists.specs.Chains.{IsChain, IsReachedFrom, OneLeadsTo}
use Rattle.lists.specs.Reach.{HasReached, ReachData}
use Rattle.lists.proofs.Members.{got-in, in-got}
use Rattle.lists.proofs.ReachedPlaces.{reached-alike, reached-none}
use Rattle.cargo_lock_merge_core.specs.declared.reach.Node.{Node}
use Rattle.cargo_lock_merge_core.specs.Reach.{EdgeAt, IsRootPlace, LeadsToPlace, RootAt, places_in}
use Rattle.cargo_lock_merge_core.proofs.Ascending.{far-below}

-- what a binary search says
pub found-index : (xs : List ℕ) (x : ℕ) → IsStrictlyIncreasing xs → (r : Result ℕ ℕ) → IsBinarySearchResult (λ y. nat_cmp y x) xs r
    → MatchOption (result_ok r) (¬ Contains xs x) (λ k. slice_get xs k ≡ Some x)
found-index xs x up (Ok i) h =
    let s = searched xs x (Ok i) h (not-above xs up) in
    slice_get-get_or xs i 0 s.0 ∙ ap Some s.1
  where
    not-above : (ys : List ℕ) → IsStrictlyIncreasing ys → (i j : ℕ) → i ≤ j → j < length ys → get_or ys i 0 ≤ get_or ys j 0
    not-above ys u i j le within = elim (cases_eq i j) [
      | inl same ↦ rw same (omega arith)
      | inr other ↦ let l = far-below ys u i j (omega arith) within in omega (arith, l)
    ]
found-index xs x up (Err i) h =
    let s = searched xs x (Err i) h (not-above xs up) in
    λ c.
    let k : ℕ = c.0 in
    let within : k < length xs = c.1 in
    let is : get_or xs k 0 ≡ x = get_or_default xs k 0 x within ∙ c.2 in
    elim (cases_lt k i) [
      | inl low ↦ let l = s.1 k low in omega (arith, l, is)
      | inr high ↦ let l = s.2 k high within in omega (arith, l, is)
    ]
  where
    not-above : (ys : List ℕ) → IsStrictlyIncreasing ys → (i j : ℕ) → i ≤ j → j < length ys → get_or ys i 0 ≤ get_or ys j 0
    not-above ys u i j le within = elim (cases_eq i j) [
      | inl same ↦ rw same (omega arith)
      | inr other ↦ let l = far-below ys u i j (omega arith) within in omega (arith, l)
    ]

-- a place is at one index only
pub at-once : (xs : List ℕ) (p : ℕ) → IsStrictlyIncreasing xs → (i j : ℕ) → slice_get xs i ≡ Some p → slice_get xs j ≡ Some p → i ≡ j
at-once xs p up i j at at' =
    let e = get_or_from_slice_get xs i p 0 at in
    let e' = get_or_from_slice_get xs j p 0 at' in
    let in' = slice_get_within xs i p at in
    let in'' = slice_get_within xs j p at' in
    elim (cases_order i j) [
      | inl same ↦ same
      | inr (inl lt) ↦ absurd (let l = far-below xs up i j lt in'' in omega (arith, l, e, e'))
      | inr (inr lt) ↦ absurd (let l = far-below xs up j i lt in' in omega (arith, l, e, e'))
    ]

-- the index of a node
place-of-node : (nodes : List Node) (j : ℕ) (n : Node) → slice_get nodes j ≡ Some n → slice_get (places_in nodes) j ≡ Some n.place
place-of-node nodes j n at = slice_get-map (λ (m : Node). m.place) nodes j ∙ ap (option_map (λ (m : Node). m.place)) at

-- ---- what a search reaches

-- the place is at the index
pub place-reached : (places : List ℕ) (d at : ℕ) (a b : ReachData) → IsStrictlyIncreasing places → slice_get places at ≡ Some d
    → HasReached (λ k. k ≡ at) a b → HasReached (λ k. slice_get places k ≡ Some d) a b
place-reached places d at a b up here f =
    reached-alike (λ k. k ≡ at) (λ k. slice_get places k ≡ Some d) a b
    (λ k same. ap (slice_get places) same ∙ here)
    (λ k h. at-once places d up k at h here)
    f

-- it is none of the places
pub place-passed : (places : List ℕ) (d : ℕ) (s : ReachData) → ¬ Contains places d → HasReached (λ k. slice_get places k ≡ Some d) s s
place-passed places d s none = reached-none (λ k. slice_get places k ≡ Some d) s (λ k h. none (got-in places k d h))

-- what a node leads to
pub edges-of : (nodes : List Node) (at : ℕ) (n : Node) (a b : ReachData) → slice_get nodes at ≡ Some n
    → HasReached (OneLeadsTo (λ d k. slice_get (places_in nodes) k ≡ Some d) n.targets.now) a b → HasReached (EdgeAt nodes at) a b
edges-of nodes at n a b is f =
    reached-alike (OneLeadsTo (λ d k. slice_get (places_in nodes) k ≡ Some d) n.targets.now) (EdgeAt nodes at) a b
    (λ k h. (n, is, h))
    (λ k h. subst (λ (m : Node). OneLeadsTo (λ d j. slice_get (places_in nodes) j ≡ Some d) m.targets.now k) (same_Some h.0 n (sym h.1 ∙ is)) h.2)
    f

pub root-here : (nodes : List Node) (i : ℕ) (n : Node) → slice_get nodes i ≡ Some n → n.is_root ≡ true → RootAt nodes i
root-here nodes i n at is = (n, at, is)

pub root-not : (nodes : List Node) (i : ℕ) (n : Node) → slice_get nodes i ≡ Some n → n.is_root ≡ false → ¬ RootAt nodes i
root-not nodes i n at is h =
    let same : h.0 ≡ n = same_Some h.0 n (sym h.1 ∙ at) in
    false≢true (sym is ∙ ap (λ (r : Node). r.is_root) (sym same) ∙ h.2)

-- ---- chains

module _ (nodes : List Node) (up : IsStrictlyIncreasing (places_in nodes)) where
  to-places : (a : ℕ) (chain : List ℕ) (k p q : ℕ) → slice_get (places_in nodes) a ≡ Some q → slice_get (places_in nodes) k ≡ Some p
      → IsChain (EdgeAt nodes) a chain k → (ps : List ℕ) × IsChain (LeadsToPlace nodes) q ps p
  to-places a [] k p q from to same = ([], same_Some q p (sym from ∙ ap (slice_get (places_in nodes)) same ∙ to))
  to-places a (b ∷ bs) k p q from to chain =
      let n : Node = chain.0.0 in
      let d : ℕ = chain.0.2.0 in
      let place : n.place ≡ q = same_Some n.place q (sym (place-of-node nodes a n chain.0.1) ∙ from) in
      let rest = to-places b bs k p d chain.0.2.2 to chain.1 in
      (d ∷ rest.0, ((n, got-in nodes a n chain.0.1, place, chain.0.2.1), rest.1))

  -- the first place of a chain to a place of a node is that of a node
  head-at : (d : ℕ) (chain : List ℕ) (p k : ℕ) → slice_get (places_in nodes) k ≡ Some p → IsChain (LeadsToPlace nodes) d chain p → (b : ℕ) × (slice_get (places_in nodes) b ≡ Some d)
  head-at d [] p k to same = (k, to ∙ ap Some (sym same))
  head-at d (e ∷ es) p k to chain =
      let n : Node = chain.0.0 in
      let j = in-got nodes n chain.0.1 in
      (j.0, place-of-node nodes j.0 n j.1 ∙ ap Some chain.0.2)

  to-indices : (q : ℕ) (chain : List ℕ) (p a k : ℕ) → slice_get (places_in nodes) a ≡ Some q → slice_get (places_in nodes) k ≡ Some p
      → IsChain (LeadsToPlace nodes) q chain p → (is : List ℕ) × IsChain (EdgeAt nodes) a is k
  to-indices q [] p a k from to same = ([], at-once (places_in nodes) p up a k (from ∙ ap Some same) to)
  to-indices q (d ∷ ds) p a k from to chain =
      let n : Node = chain.0.0 in
      let j = in-got nodes n chain.0.1 in
      let here : j.0 ≡ a = at-once (places_in nodes) q up j.0 a (place-of-node nodes j.0 n j.1 ∙ ap Some chain.0.2) from in
      let next = head-at d ds p k to chain.1 in
      let rest = to-indices d ds p next.0 k next.1 to chain.1 in
      (next.0 ∷ rest.0, ((n, ap (slice_get nodes) (sym here) ∙ j.1, (d, chain.0.3, next.1)), rest.1))

  pub by-place : (k p : ℕ) → slice_get (places_in nodes) k ≡ Some p
      → IsReachedFrom (RootAt nodes) (EdgeAt nodes) k ↔ IsReachedFrom (IsRootPlace nodes) (LeadsToPlace nodes) p
  by-place k p at = (
    λ r.
        let n : Node = r.2.0 in
        let chain = to-places r.0 r.1 k p n.place (place-of-node nodes r.0 n r.2.1) at r.3 in
        (n.place, chain.0, (n, got-in nodes r.0 n r.2.1, refl, r.2.2), chain.1),
    λ r.
        let n : Node = r.2.0 in
        let j = in-got nodes n r.2.1 in
        let chain = to-indices r.0 r.1 p j.0 k (place-of-node nodes j.0 n j.1 ∙ ap Some r.2.2) at r.3 in
        (j.0, chain.0, (n, j.1, r.2.3), chain.1),
  )
