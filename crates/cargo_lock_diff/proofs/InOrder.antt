-- What is left of a list and comes in its order: sublists, and packages sorted by their places.
use Rattle.std.proofs.Common.{◌≡◌, ℕ, suc, ◌+◌, ◌-◌, ◌<◌, ◌≤◌, false, eqb, List, []}
use Rattle.std.proofs.Common.{◌∷◌, ◌++◌, ◌⊎◌, inl, inr, get_or, length, map, refl, ap, sym, ◌∙◌}
use Rattle.std.proofs.Common.{subst, arith, All, IsPermutation, IsSorted}
use Rattle.std.specs.Borrow.{Bor}
use Rattle.std.specs.Cmp.{nat_eq_equiv}
use Rattle.std.specs.List.{IsDistinct}
use Rattle.std.specs.List.Sorted.{IsNonDecreasingBy}
use Rattle.std.specs.Ordering.{is_lt, on}
use Rattle.std.proofs.lemmas.Bool.{cases_order, eqb-false, ne_eqb}
use Rattle.std.proofs.lemmas.List.{get_or-map, get_or_append_left, get_or_push, length-map}
use Rattle.std.proofs.lemmas.List.{length_push}
use Rattle.std.proofs.lemmas.List.Elements.{All-from_recursion, All-head, All-tail}
use Rattle.std.proofs.lemmas.List.Sorted.{All-permutation, IsPermutation-append_comm}
use Rattle.std.proofs.lemmas.List.Sorted.{IsPermutation-map}
use Rattle.std.proofs.lemmas.Map.Keys.{IsDistinct-from_apart, IsDistinct-head}
use Rattle.std.proofs.lemmas.Map.Keys.{IsDistinct-IsPermutation, IsDistinct-tail}
use Rattle.cargo_lock_parts.specs.Identity.{PackageData}
use Rattle.cargo_lock_diff.specs.declared.likeness.Likeness.TheVariants.{Whole}
use Rattle.cargo_lock_diff.specs.declared.matching.Placed.{Placed}
use Rattle.cargo_lock_diff.specs.Difference.{referred_pairs}
use Rattle.cargo_lock_diff.specs.Likeness.{likeness_cmp}
use Rattle.cargo_lock_diff.specs.Matching.{ArePairsInOrder, IsSublist, firsts}
use Rattle.cargo_lock_diff.specs.Placing.{AreAtPlaces, unplaced_pair}
use Rattle.cargo_lock_diff.proofs.Matched.{both, firsts-both}

-- ---- sublists

pub sub-refl : {X : Type 0} (xs : List X) → IsSublist xs xs
sub-refl [] = tt
sub-refl (x ∷ xs) = inl (refl, sub-refl xs)

pub sub-trans : {X : Type 0} (xs ys zs : List X) → IsSublist xs ys → IsSublist ys zs
    → IsSublist xs zs
sub-trans [] ys zs a b = tt
sub-trans (x ∷ xs) [] zs a b = absurd a
sub-trans (x ∷ xs) (y ∷ ys) [] a b = absurd b
sub-trans (x ∷ xs) (y ∷ ys) (z ∷ zs) (inl a) (inl b) = inl (a.0 ∙ b.0, sub-trans xs ys zs a.1 b.1)
sub-trans (x ∷ xs) (y ∷ ys) (z ∷ zs) (inr a) (inl b) = inr (sub-trans (x ∷ xs) ys zs a b.1)
sub-trans (x ∷ xs) (y ∷ ys) (z ∷ zs) a (inr b) = inr (sub-trans (x ∷ xs) (y ∷ ys) zs a b)

pub sub-map : {X Y : Type 0} (f : X → Y) (xs ys : List X) → IsSublist xs ys
    → IsSublist (map f xs) (map f ys)
sub-map f [] ys h = tt
sub-map f (x ∷ xs) [] h = absurd h
sub-map f (x ∷ xs) (y ∷ ys) (inl h) = inl (ap f h.0, sub-map f xs ys h.1)
sub-map f (x ∷ xs) (y ∷ ys) (inr h) = inr (sub-map f (x ∷ xs) ys h)

-- lists that a function is applied to keep the order
pub order-map : {X Y : Type 0} (f : X → Y) (olds news : List X) (pairs : List (X × X))
    (old new : List X) → ArePairsInOrder olds news pairs old new
    → ArePairsInOrder (map f olds) (map f news) (map (both f) pairs) (map f old) (map f new)
order-map {X} {Y} f olds news pairs old new h = record {
  of_pairs = subst (λ (zs : List Y). IsSublist zs (map f olds)) (firsts-both f pairs)
      (sub-map f (firsts pairs) olds h.of_pairs);
  of_old = sub-map f old olds h.of_old;
  of_new = sub-map f new news h.of_new;
}

-- what a later pairing leaves of what is left
pub order-later : {X : Type 0} (olds news : List X) (pairs : List (X × X)) (old new o n : List X)
    → ArePairsInOrder olds news pairs old new → IsSublist o old → IsSublist n new
    → ArePairsInOrder olds news pairs o n
order-later olds news pairs old new o n h a b = record {
  of_pairs = h.of_pairs;
  of_old = sub-trans o old olds a h.of_old;
  of_new = sub-trans n new news b h.of_new;
}

-- ---- places

abbrev pub item : Placed → Bor PackageData
item p = p.item

-- the package is at its place in the list, whose first place has this number
abbrev AtFrom : ℕ → List (Bor PackageData) → Placed → Type 0
AtFrom start xs p = (start ≤ p.place) × (p.place < start + length xs)
    × (get_or xs (p.place - start) p.item ≡ p.item)

one-on : (start : ℕ) (x : Bor PackageData) (xs : List (Bor PackageData)) (p : Placed)
    → AtFrom start (x ∷ xs) p → start < p.place → AtFrom (suc start) xs p
one-on start x xs p h lt =
    let e : p.place - start ≡ suc (p.place - suc start) = omega arith in (
      omega arith,
      omega (arith, h.1),
      subst (λ (n : ℕ). get_or (x ∷ xs) n p.item ≡ p.item) e h.2,
    )

abbrev pub Rises : List Placed → Type 0
Rises = IsNonDecreasingBy (λ p. p.place)

abbrev AreApart : List Placed → Type 0
AreApart ps = IsDistinct eqb (map (λ p. p.place) ps)

rises-tail : (p : Placed) (ps : List Placed) → Rises (p ∷ ps) → Rises ps
rises-tail p ps up = λ i j d le lt. up (suc i) (suc j) d (omega arith) (omega (arith, lt))

-- each place is behind the first one
behind : (p : Placed) (ps : List Placed) → Rises (p ∷ ps) → AreApart (p ∷ ps)
    → (k : ℕ) (d : Placed) → k < length ps → p.place < (get_or ps k d).place
behind p ps up apart k d lt =
    let q = get_or ps k d in
    let places : List ℕ = map (λ (r : Placed). r.place) ps in
    let le : p.place ≤ q.place = up 0 (suc k) d (omega arith) (omega (arith, lt)) in
    let other : eqb p.place (get_or places k 0) ≡ false =
    All-from_recursion (λ (n : ℕ). eqb p.place n ≡ false) places
    (IsDistinct-head eqb p.place places apart) k 0
    (omega (arith, lt, length-map ps (λ (r : Placed). r.place))) in
    let at : get_or places k 0 ≡ q.place = get_or-map (λ (r : Placed). r.place) ps k d 0 lt in
    let ne : p.place ≡ q.place → ⊥
    = λ e. eqb-false p.place (get_or places k 0) other (e ∙ sym at) in
    by (cases_order p.place q.place) le ne
  where
    by : {a b : ℕ} → (a ≡ b) ⊎ ((a < b) ⊎ (b < a)) → a ≤ b → (a ≡ b → ⊥) → a < b
    by (inl e) le ne = absurd (ne e)
    by (inr (inl lt)) le ne = lt
    by (inr (inr gt)) le ne = absurd (omega (arith, gt, le))

-- packages whose places rise are a sublist
from-places : (start : ℕ) (xs : List (Bor PackageData)) (ps : List Placed)
    → All (AtFrom start xs) ps → Rises ps → AreApart ps → IsSublist (map item ps) xs
from-places start xs [] all up apart = tt
from-places start [] (p ∷ ps) all up apart =
    let h : AtFrom start [] p = All-head (AtFrom start []) p ps all in
    absurd (omega (arith, h.0, h.1))
from-places start (x ∷ xs) (p ∷ ps) all up apart =
    by (cases_order start p.place) (All-head (AtFrom start (x ∷ xs)) p ps all)
    (from-places (suc start) xs ps) (from-places (suc start) xs (p ∷ ps))
  where
    by : (start ≡ p.place) ⊎ ((start < p.place) ⊎ (p.place < start)) → AtFrom start (x ∷ xs) p
        → (All (AtFrom (suc start) xs) ps → Rises ps → AreApart ps → IsSublist (map item ps) xs)
        → (All (AtFrom (suc start) xs) (p ∷ ps) → Rises (p ∷ ps) → AreApart (p ∷ ps)
        → IsSublist (map item (p ∷ ps)) xs)
        → IsSublist (map item (p ∷ ps)) (x ∷ xs)
    by (inl e) h taken left =
        let here : p.place - start ≡ 0 = omega (arith, e) in inl (
          sym (subst (λ (n : ℕ). get_or (x ∷ xs) n p.item ≡ p.item) here h.2),
          taken
              (λ k d lt. one-on start x xs (get_or ps k d) (all (suc k) d (omega (arith, lt)))
              (omega (arith, e, behind p ps up apart k d lt)))
              (rises-tail p ps up)
              (IsDistinct-tail eqb p.place (map (λ (r : Placed). r.place) ps) apart),
        )
    by (inr (inl lt)) h taken left = inr (left
        (λ k d within. one-on start x xs (get_or (p ∷ ps) k d) (all k d within)
        (omega (arith, lt, up 0 k d (omega arith) within))) up apart)
    by (inr (inr gt)) h taken left = absurd (omega (arith, gt, h.0))

-- ---- packages at places

from-sorted : (xs : List (Bor PackageData)) (ps : List Placed) → AreAtPlaces xs ps → Rises ps
    → IsSublist (map item ps) xs
from-sorted xs ps at up = from-places 0 xs ps
    (λ k d lt.
    let p = get_or ps k d in
    let h = at.there k d lt in
    let whole : p.place ≡ p.place - 0 = omega arith in (
      omega arith,
      omega (arith, h.0),
      subst (λ (n : ℕ). get_or xs n p.item ≡ p.item) whole h.1,
    )) up at.apart

pub at-permuted : (xs : List (Bor PackageData)) (ps qs : List Placed) → IsPermutation ps qs
    → AreAtPlaces xs ps → AreAtPlaces xs qs
at-permuted xs ps qs perm at = record {
  there = All-permutation
      (λ (p : Placed). (p.place < length xs) × (get_or xs p.place p.item ≡ p.item)) ps qs perm
      at.there;
  apart = IsDistinct-IsPermutation eqb nat_eq_equiv.symm (map (λ (p : Placed). p.place) ps)
      (map (λ (p : Placed). p.place) qs) (IsPermutation-map (λ (p : Placed). p.place) ps qs perm)
      at.apart;
}

-- of a list behind another one
at-back : (xs : List (Bor PackageData)) (ps qs : List Placed) → AreAtPlaces xs (ps ++ qs) → AreAtPlaces xs qs
at-back xs [] qs at = at
at-back xs (p ∷ ps) qs at = at-back xs ps qs record {
  there = All-tail
      (λ (q : Placed). (q.place < length xs) × (get_or xs q.place q.item ≡ q.item)) p (ps ++ qs)
      at.there;
  apart = IsDistinct-tail eqb p.place (map (λ (q : Placed). q.place) (ps ++ qs)) at.apart;
}

at-front : (xs : List (Bor PackageData)) (ps qs : List Placed) → AreAtPlaces xs (ps ++ qs) → AreAtPlaces xs ps
at-front xs ps qs at =
    at-back xs qs ps (at-permuted xs (ps ++ qs) (qs ++ ps) (IsPermutation-append_comm ps qs) at)

-- ---- sorted by place

-- what is sorted by place is a sublist of each list whose places it has
pub items-sorted : (list sorted : List Placed) → IsPermutation list sorted → Rises sorted
    → (xs : List (Bor PackageData)) → AreAtPlaces xs list → IsSublist (map item sorted) xs
items-sorted list sorted perm up xs at =
    from-sorted xs sorted (at-permuted xs list sorted perm at) up

pub pairs-sorted : (pairs sorted : List (Placed × Placed)) → IsPermutation pairs sorted
    → IsNonDecreasingBy (λ p. p.0.place) sorted → (xs : List (Bor PackageData))
    → AreAtPlaces xs (firsts pairs) → IsSublist (firsts (map unplaced_pair sorted)) xs
pairs-sorted pairs sorted perm up xs at =
    subst (λ (zs : List (Bor PackageData)). IsSublist zs xs) (firsts-both item sorted)
    (items-sorted (firsts pairs) (firsts sorted)
    (IsPermutation-map (λ (p : Placed × Placed). p.0) pairs sorted perm) rises xs at)
  where
    rises : Rises (firsts sorted)
    rises i j d le lt =
        let within : j < length sorted
        = omega (arith, lt, length-map sorted (λ (p : Placed × Placed). p.0)) in
        let a = get_or-map (λ (p : Placed × Placed). p.0) sorted i (d, d) d (omega arith) in
        let b = get_or-map (λ (p : Placed × Placed). p.0) sorted j (d, d) d within in
        let h = up i j (d, d) le within in
        omega (arith, ap (λ (p : Placed). p.place) a, ap (λ (p : Placed). p.place) b, h)

-- the pairs and what is left of lists with places, each put in its order
pub put-in-order : (olds news : List (Bor PackageData)) (os ns : List Placed)
    (merged : List (Placed × Placed)) (o n : List Placed)
    (pairs : List (Bor PackageData × Bor PackageData)) (old new : List (Bor PackageData))
    → AreAtPlaces olds os → AreAtPlaces news ns → IsPermutation os (firsts merged ++ o)
    → IsPermutation ns (map (λ p. p.1) merged ++ n)
    → ((xs : List (Bor PackageData)) → AreAtPlaces xs (firsts merged) → IsSublist (firsts pairs) xs)
    → ((xs : List (Bor PackageData)) → AreAtPlaces xs o → IsSublist old xs)
    → ((xs : List (Bor PackageData)) → AreAtPlaces xs n → IsSublist new xs)
    → ArePairsInOrder olds news pairs old new
put-in-order olds news os ns merged o n pairs old new at_o at_n told_o told_n by_pairs by_o by_n =
    let seconds : List Placed = map (λ (p : Placed × Placed). p.1) merged in
    let in_o = at-permuted olds os (firsts merged ++ o) told_o at_o in
    let in_n = at-permuted news ns (seconds ++ n) told_n at_n in
    record {
      of_pairs = by_pairs olds (at-front olds (firsts merged) o in_o);
      of_old = by_o olds (at-back olds (firsts merged) o in_o);
      of_new = by_n news (at-back news seconds n in_n);
    }

-- ---- numbered

-- each package has its place in the list
abbrev pub AreNumbered : List Placed → Type 0
AreNumbered ps = (k : ℕ) (d : Placed) → k < length ps → (get_or ps k d).place ≡ k

pub numbered-none : AreNumbered []
numbered-none k d lt = absurd (omega (arith, lt))

pub numbered-push : (ps all : List Placed) (p : Placed) → AreNumbered ps → p.place ≡ length ps
    → all ≡ ps ++ p ∷ [] → AreNumbered all
numbered-push ps all p numbered place is = subst AreNumbered (sym is) pushed
  where
    pushed : AreNumbered (ps ++ p ∷ [])
    pushed k d lt = by (cases_order k (length ps))
      where
        by : (k ≡ length ps) ⊎ ((k < length ps) ⊎ (length ps < k))
            → (get_or (ps ++ p ∷ []) k d).place ≡ k
        by (inl e) = ap (λ (q : Placed). q.place) (get_or_push ps p d k (sym e)) ∙ place ∙ sym e
        by (inr (inl below)) =
            ap (λ (q : Placed). q.place) (get_or_append_left ps (p ∷ []) d k below)
            ∙ numbered k d below
        by (inr (inr above)) = absurd (omega (arith, above, lt, length_push ps p))

numbered-apart : (ps : List Placed) → AreNumbered ps → AreApart ps
numbered-apart [] numbered =
    IsDistinct-from_apart eqb [] (λ i j d below lt. absurd (omega (arith, lt)))
numbered-apart (p ∷ ps) numbered =
    IsDistinct-from_apart eqb (map place (p ∷ ps))
    (λ i j d below lt.
    let within : j < length (p ∷ ps) = omega (arith, lt, length-map (p ∷ ps) place) in
    let a = get_or-map place (p ∷ ps) i p d (omega arith) ∙ numbered i p (omega arith) in
    let b = get_or-map place (p ∷ ps) j p d within ∙ numbered j p within in
    ne_eqb (get_or (map place (p ∷ ps)) i d) (get_or (map place (p ∷ ps)) j d)
    (λ e. absurd (omega (arith, a, b, e, below))))
  where
    place : Placed → ℕ
    place q = q.place

pub numbered-at : (xs : List (Bor PackageData)) (ps : List Placed)
    → map (λ (p : Placed). p.item) ps ≡ xs → AreNumbered ps → AreAtPlaces xs ps
numbered-at xs ps is numbered = subst (λ (zs : List (Bor PackageData)). AreAtPlaces zs ps) is record {
  there = λ k d lt.
      let p = get_or ps k d in
      let items : List (Bor PackageData) = map item ps in
      let at : p.place ≡ k = numbered k d lt in (
        omega (arith, at, lt, length-map ps item),
        subst (λ (n : ℕ). get_or items n p.item ≡ p.item) (sym at)
            (get_or-map item ps k d p.item lt),
      );
  apart = numbered-apart ps numbered;
}

-- ---- sorted pairs

-- references to pairs that are sorted by the old packages lead to pairs that are
pub sorted-at : (pairs : List (Bor PackageData × Bor PackageData))
    → IsSorted (on (λ p. p.0.now) (likeness_cmp Whole)) pairs
    → IsSorted (on (λ p. p.0) (likeness_cmp Whole)) (referred_pairs pairs)
sorted-at [] up = λ k d low lt. absurd (omega (arith, lt))
sorted-at (p ∷ ps) up = λ k d low lt.
    let at : Bor PackageData × Bor PackageData → PackageData × PackageData
    = λ q. (q.0.now, q.1.now) in
    let within : k + 1 < length (p ∷ ps) = omega (arith, lt, length-map (p ∷ ps) at) in
    let a = get_or-map at (p ∷ ps) k p d (omega arith) in
    let b = get_or-map at (p ∷ ps) (k + 1) p d within in
    (λ i. is_lt (likeness_cmp Whole (b i).0 (a i).0)) ∙ up k p low within
