-- How chains of edges grow, edge by edge.
use Rattle.std.proofs.Common.{◌≡◌, ◌<◌, ◌+◌, inl, inr, ℕ, zero, suc, true, false, nat_eq, List, [], ◌∷◌, ◌++◌, length, get_or, set, replicate, reverse, take, slice_get, Option, Some, None, IfSome, refl, sym, ap, subst, ◌∙◌, arith, length-append, length-set, ◌⊎◌}
use Rattle.std.specs.List.{filter}
use Rattle.std.proofs.lemmas.Bool.{cases_Bool, false≢true}
use Rattle.std.proofs.lemmas.Bool.Decides.{Decides-eqb}
use Rattle.std.proofs.lemmas.List.{length-replicate, reverse-append, take-append-le, take_more}
use Rattle.std.proofs.lemmas.List.Elements.{filter-append}
use Rattle.std.proofs.lemmas.Option.{slice_get_read, same_Some, none-some}
use Rattle.std.proofs.Math.Seq.{take-append_seam}
use Rattle.cargo_lock_graph.specs.declared.graph.EdgeDirection.{EdgeDirection}
use Rattle.cargo_lock_graph.specs.declared.graph.EdgeDirection.TheVariants.{Outgoing, Incoming}
use Rattle.cargo_lock_graph.specs.Chains.{AreBetween, AreChains}
use Rattle.cargo_lock_graph.specs.Edges.{Edge, near_end, is_at, edges_at, edge_and_older, edges_from}

-- ---- places in lists

pub slice_get-left : {X : Type 0} (xs ys : List X) (k : ℕ) → k < length xs → slice_get (xs ++ ys) k ≡ slice_get xs k
slice_get-left [] ys k low = absurd (omega (arith, low))
slice_get-left (x ∷ xs) ys zero low = refl
slice_get-left (x ∷ xs) ys (suc k) low = slice_get-left xs ys k (omega (arith, low))

pub slice_get-seam : {X : Type 0} (xs ys : List X) (y : X) → slice_get (xs ++ y ∷ ys) (length xs) ≡ Some y
slice_get-seam [] ys y = refl
slice_get-seam (x ∷ xs) ys y = slice_get-seam xs ys y

slice_get-set : {X : Type 0} (xs : List X) (i : ℕ) (y : X) → i < length xs → slice_get (set xs i y) i ≡ Some y
slice_get-set [] i y low = absurd (omega (arith, low))
slice_get-set (x ∷ xs) zero y low = refl
slice_get-set (x ∷ xs) (suc i) y low = slice_get-set xs i y (omega (arith, low))

slice_get-other : {X : Type 0} (xs : List X) (i j : ℕ) (y : X) → ¬ (i ≡ j) → slice_get (set xs i y) j ≡ slice_get xs j
slice_get-other [] i j y other = refl
slice_get-other (x ∷ xs) zero zero y other = absurd (other refl)
slice_get-other (x ∷ xs) zero (suc j) y other = refl
slice_get-other (x ∷ xs) (suc i) zero y other = refl
slice_get-other (x ∷ xs) (suc i) (suc j) y other = slice_get-other xs i j y (λ e. other (ap suc e))

slice_get-replicate : {X : Type 0} (n k : ℕ) (y x : X) → slice_get (replicate n y) k ≡ Some x → y ≡ x
slice_get-replicate zero k y x there = absurd (none-some x there)
slice_get-replicate (suc n) zero y x there = same_Some y x there
slice_get-replicate (suc n) (suc k) y x there = slice_get-replicate n k y x there

-- a place in a list with one more is in the list, or it is that one
abbrev pub InOrLast : {X : Type 0} → List X → X → ℕ → X → Type 0
InOrLast xs y k x = ((k < length xs) × (slice_get xs k ≡ Some x)) ⊎ ((k ≡ length xs) × (y ≡ x))

pub in_or_last : {X : Type 0} (xs : List X) (y : X) (k : ℕ) (x : X) → slice_get (xs ++ y ∷ []) k ≡ Some x → InOrLast xs y k x
in_or_last [] y zero x there = inr (refl, same_Some y x there)
in_or_last [] y (suc k) x there = absurd (none-some x there)
in_or_last (z ∷ xs) y zero x there = inl (omega arith, there)
in_or_last (z ∷ xs) y (suc k) x there = elim (in_or_last xs y k x there) [
  | inl (low, at) ↦ inl (omega (arith, low), at)
  | inr (last, is) ↦ inr (ap suc last, is)
]

-- ---- edges with one more

at-more : (direction : EdgeDirection) (edges : List Edge) (e : Edge) (node : ℕ) → is_at direction node e ≡ true
    → edges_at direction (edges ++ e ∷ []) node ≡ e ∷ edges_at direction edges node
at-more direction edges e node hit =
    ap reverse (filter-append (is_at direction node) edges (e ∷ []))
    ∙ reverse-append (filter (is_at direction node) edges) (filter (is_at direction node) (e ∷ []))
    ∙ rw hit refl

at-less : (direction : EdgeDirection) (edges : List Edge) (e : Edge) (node : ℕ) → is_at direction node e ≡ false
    → edges_at direction (edges ++ e ∷ []) node ≡ edges_at direction edges node
at-less direction edges e node miss =
    ap reverse (filter-append (is_at direction node) edges (e ∷ []))
    ∙ reverse-append (filter (is_at direction node) edges) (filter (is_at direction node) (e ∷ []))
    ∙ rw miss refl

from-more : (direction : EdgeDirection) (edges : List Edge) (e : Edge) (place : Option ℕ) → IfSome place (λ k. k < length edges)
    → edges_from direction (edges ++ e ∷ []) place ≡ edges_from direction edges place
from-more direction edges e None low = refl
from-more direction edges e (Some k) low =
    let front : take k (edges ++ e ∷ []) ≡ take k edges = take-append-le k edges (e ∷ []) (omega (arith, low)) in
    let at = slice_get-left edges (e ∷ []) k low in
    ap (λ older_edge. edge_and_older direction older_edge (slice_get (edges ++ e ∷ []) k)) front
    ∙ ap (edge_and_older direction (take k edges)) at

from-last : (direction : EdgeDirection) (edges : List Edge) (e : Edge)
    → edges_from direction (edges ++ e ∷ []) (Some (length edges)) ≡ e ∷ edges_at direction edges (near_end direction e)
from-last direction edges e =
    ap (λ older_edge. edge_and_older direction older_edge (slice_get (edges ++ e ∷ []) (length edges))) (take-append_seam edges (e ∷ []))
    ∙ ap (edge_and_older direction edges) (slice_get-seam edges [] e)

-- ---- no edges

from-none : (direction : EdgeDirection) (place : Option ℕ) → edges_from direction [] place ≡ []
from-none direction None = refl
from-none direction (Some k) = refl

pub chains-none : (direction : EdgeDirection) (count : ℕ) → AreChains direction count [] (replicate count None) []
chains-none direction count = record {
  for_nodes = length-replicate count None;
  for_edges = refl;
  from_newest = λ node place there. from-none direction place;
  from_older = λ k e place there at. absurd (none-some e there);
  within = λ node place there. absurd (none-some place (slice_get-replicate count node None (Some place) there));
  earlier = λ k place there. absurd (none-some (Some place) there);
}

-- ---- one edge more

newest_edge-or-old : (newest_edge : List (Option ℕ)) (near node place : ℕ) (found : Option ℕ) → near < length newest_edge
    → slice_get (set newest_edge near (Some place)) node ≡ Some found
    → ((near ≡ node) × (Some place ≡ found)) ⊎ ((nat_eq near node ≡ false) × (slice_get newest_edge node ≡ Some found))
newest_edge-or-old newest_edge near node place found low there = elim (cases_Bool (nat_eq near node)) [
  | inl same ↦
      let e : near ≡ node = (Decides-eqb near node).0 same in
      let at = subst (λ n. slice_get (set newest_edge near (Some place)) n ≡ Some found) (sym e) there in
      inl (e, same_Some (Some place) found (sym (slice_get-set newest_edge near (Some place) low) ∙ at))
  | inr other ↦
      let apart : ¬ (near ≡ node) = λ e. false≢true (sym other ∙ (Decides-eqb near node).1 e) in
      inr (other, sym (slice_get-other newest_edge near node (Some place) apart) ∙ there)
]

known : (direction : EdgeDirection) (count : ℕ) (edges : List Edge) (newest_edge older_edge : List (Option ℕ)) → AreChains direction count edges newest_edge older_edge
    → (node : ℕ) (place : Option ℕ) → slice_get newest_edge node ≡ Some place → IfSome place (λ k. k < length edges)
known direction count edges newest_edge older_edge chains node None there = tt
known direction count edges newest_edge older_edge chains node (Some k) there = chains.within node k there

known-older_edge : (direction : EdgeDirection) (count : ℕ) (edges : List Edge) (newest_edge older_edge : List (Option ℕ)) → AreChains direction count edges newest_edge older_edge
    → (k : ℕ) (place : Option ℕ) → k < length edges → slice_get older_edge k ≡ Some place → IfSome place (λ j. j < length edges)
known-older_edge direction count edges newest_edge older_edge chains k None low there = tt
known-older_edge direction count edges newest_edge older_edge chains k (Some j) low there =
    let before = chains.earlier k j there in omega (arith, before, low)

pub chains-more : (direction : EdgeDirection) (count : ℕ) (edges : List Edge) (newest_edge older_edge : List (Option ℕ)) (e : Edge) (old : Option ℕ)
    → near_end direction e < count → slice_get newest_edge (near_end direction e) ≡ Some old
    → AreChains direction count edges newest_edge older_edge
    → AreChains direction count (edges ++ e ∷ []) (set newest_edge (near_end direction e) (Some (length edges))) (older_edge ++ old ∷ [])
chains-more direction count edges newest_edge older_edge e old low was chains =
    let near = near_end direction e in
    let long = chains.for_nodes in
    let even = chains.for_edges in
    let low2 : near < length newest_edge = omega (arith, low, long) in
    let longer = length-append edges (e ∷ []) in
    record {
      for_nodes = length-set newest_edge near (Some (length edges)) ∙ long;
      for_edges = let l = length-append older_edge (old ∷ []) in omega (arith, l, longer, even);
      from_newest = λ node place there. elim (newest_edge-or-old newest_edge near node (length edges) place low2 there) [
        | inl (same, is) ↦
            subst (λ p. edges_from direction (edges ++ e ∷ []) p ≡ edges_at direction (edges ++ e ∷ []) node) is
            (subst (λ n. edges_from direction (edges ++ e ∷ []) (Some (length edges)) ≡ edges_at direction (edges ++ e ∷ []) n) same
            (from-last direction edges e ∙ sym (at-more direction edges e near ((Decides-eqb near near).1 refl))))
        | inr (other, at) ↦
            from-more direction edges e place (known direction count edges newest_edge older_edge chains node place at)
            ∙ chains.from_newest node place at
            ∙ sym (at-less direction edges e node other)
      ];
      from_older = λ k f place there at. elim (in_or_last edges e k f there) [
        | inl (before, in_edges) ↦
            let in_older : slice_get older_edge k ≡ Some place = sym (slice_get-left older_edge (old ∷ []) k (omega (arith, before, even))) ∙ at in
            from-more direction edges e place (known-older_edge direction count edges newest_edge older_edge chains k place before in_older)
            ∙ chains.from_older k f place in_edges in_older
            ∙ ap (λ older_edge. edges_at direction older_edge (near_end direction f)) (sym (take-append-le k edges (e ∷ []) (omega (arith, before))))
        | inr (last, is) ↦
            let here : old ≡ place = same_Some old place (sym (slice_get-seam older_edge [] old) ∙ ap (slice_get (older_edge ++ old ∷ [])) (even ∙ sym last) ∙ at) in
            subst (λ p. edges_from direction (edges ++ e ∷ []) p ≡ edges_at direction (take k (edges ++ e ∷ [])) (near_end direction f)) here
            (from-more direction edges e old (known direction count edges newest_edge older_edge chains near old was)
            ∙ chains.from_newest near old was
            ∙ ap (edges_at direction edges) (ap (near_end direction) is)
            ∙ ap (λ older_edge. edges_at direction older_edge (near_end direction f)) (sym (ap (λ n. take n (edges ++ e ∷ [])) last ∙ take-append_seam edges (e ∷ []))))
      ];
      within = λ node place there. elim (newest_edge-or-old newest_edge near node (length edges) (Some place) low2 there) [
        | inl (same, is) ↦ let p = same_Some (length edges) place is in omega (arith, p, longer)
        | inr (other, at) ↦ let p = chains.within node place at in omega (arith, p, longer)
      ];
      earlier = λ k place there. elim (in_or_last older_edge old k (Some place) there) [
        | inl (before, at) ↦ chains.earlier k place at
        | inr (last, is) ↦ let p = chains.within near place (was ∙ ap Some is) in omega (arith, p, last, even)
      ];
    }

-- a step over the edges
pub chains-step : (direction : EdgeDirection) (count : ℕ) (edges : List Edge) (newest_edge older_edge pushed : List (Option ℕ)) (index node place : ℕ) (e : Edge) (old : Option ℕ)
    → index < length edges → e ≡ get_or edges index e → node ≡ near_end direction e → near_end direction e < count
    → place ≡ length older_edge → old ≡ get_or newest_edge node old → pushed ≡ older_edge ++ old ∷ []
    → AreChains direction count (take index edges) newest_edge older_edge
    → AreChains direction count (take (index + 1) edges) (set newest_edge node (Some place)) pushed
chains-step direction count edges newest_edge older_edge pushed index node place e old inside is at low here was grown chains =
    let near = near_end direction e in
    let front = take index edges in
    let long = chains.for_nodes in
    let even = chains.for_edges in
    let was2 : slice_get newest_edge near ≡ Some old =
    subst (λ n. slice_get newest_edge n ≡ Some old) at (slice_get_read newest_edge (length newest_edge) node old refl (omega (arith, at, low, long)) was) in
    let more = chains-more direction count front newest_edge older_edge e old low was2 chains in
    let whole : take (index + 1) edges ≡ front ++ e ∷ [] =
    take_more edges index e inside ∙ ap (λ f. front ++ f ∷ []) (sym is) in
    let length_is : length front ≡ place = sym even ∙ sym here in
    let P : List Edge → ℕ → ℕ → List (Option ℕ) → Type 0 = λ edges node place older_edge. AreChains direction count edges (set newest_edge node (Some place)) older_edge in
    subst (λ o. P (take (index + 1) edges) node place o) (sym grown)
    (subst (λ n. P (take (index + 1) edges) n place (older_edge ++ old ∷ [])) (sym at)
    (subst (λ n. P (take (index + 1) edges) near n (older_edge ++ old ∷ [])) length_is
    (subst (λ es. P es near (length front) (older_edge ++ old ∷ [])) (sym whole) more)))

pub near_below : (direction : EdgeDirection) (count : ℕ) (edges : List Edge) (index : ℕ) (e : Edge) → AreBetween count edges
    → index < length edges → e ≡ get_or edges index e → near_end direction e < count
near_below Outgoing count edges index e between inside is = subst (λ f. f.from < count) (sym is) (between index e inside).0
near_below Incoming count edges index e between inside is = subst (λ f. f.to < count) (sym is) (between index e inside).1
