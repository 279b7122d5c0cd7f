-- Lists in another order.
use Rattle.std.proofs.Common.{◌≡◌, ◌⊎◌, ◌<◌, inl, inr, ℕ, List, [], ◌∷◌, length, get_or, map, set, refl, sym, ap, subst, ◌∙◌, arith}
use Rattle.std.specs.List.{AllPairs, swap}
use Rattle.std.specs.List.Sorted.{IsPermutation}
use Rattle.std.proofs.lemmas.Bool.{cases_order}
use Rattle.std.proofs.lemmas.List.{get_or-map, length-map, map-set}
use Rattle.std.proofs.lemmas.List.Edits.{length-swap, swap_is, swapped_from_swap}
use Rattle.std.proofs.lemmas.List.Sorted.{IsPermutation-keeps, IsPermutation-refl, IsPermutation-swap, IsPermutation-trans}

same-cases : (m n : ℕ) → (m ≡ n) ⊎ (¬ (m ≡ n))
same-cases m n = elim (cases_order m n) [
  | inl same ↦ inl same
  | inr other ↦ elim other [ inl less ↦ inr (λ e. omega (arith, less, e)) | inr more ↦ inr (λ e. omega (arith, more, e)) ]
]

-- the index from which an element came
IsFrom : ℕ → ℕ → ℕ → ℕ → Type 0
IsFrom i j k m = ((k ≡ i) × (m ≡ j)) ⊎ (((k ≡ j) × (m ≡ i)) ⊎ ((¬ (k ≡ i)) × (¬ (k ≡ j)) × (m ≡ k)))

from-apart : (i j a b m n : ℕ) → IsFrom i j a m → IsFrom i j b n → a < b → ¬ (m ≡ n)
unfolding IsFrom
from-apart i j a b m n (inl (ai, mj)) (inl (bi, nj)) less e = omega (arith, ai, bi, less)
from-apart i j a b m n (inl (ai, mj)) (inr (inl (bj, ni))) less e = omega (arith, ai, mj, bj, ni, less, e)
from-apart i j a b m n (inl (ai, mj)) (inr (inr (bi, bj, nb))) less e = bj (omega (arith, mj, nb, e))
from-apart i j a b m n (inr (inl (aj, mi))) (inl (bi, nj)) less e = omega (arith, aj, mi, bi, nj, less, e)
from-apart i j a b m n (inr (inl (aj, mi))) (inr (inl (bj, ni))) less e = omega (arith, aj, bj, less)
from-apart i j a b m n (inr (inl (aj, mi))) (inr (inr (bi, bj, nb))) less e = bi (omega (arith, mi, nb, e))
from-apart i j a b m n (inr (inr (ai, aj, ma))) (inl (bi, nj)) less e = aj (omega (arith, ma, nj, e))
from-apart i j a b m n (inr (inr (ai, aj, ma))) (inr (inl (bj, ni))) less e = ai (omega (arith, ma, ni, e))
from-apart i j a b m n (inr (inr (ai, aj, ma))) (inr (inr (bi, bj, nb))) less e = omega (arith, ma, nb, less, e)

-- what holds between any two elements, in either order, does so in another order of them
pub pairs-permuted : {X : Type 0} (R : X → X → Type 0) → ((x y : X) → R x y → R y x) → (xs ys : List X) → IsPermutation xs ys → AllPairs R xs → AllPairs R ys
unfolding IsFrom
pairs-permuted {X = X} R turn xs ys perm h = IsPermutation-keeps xs (AllPairs R) h step ys perm
  where
    step : (l : List X) (i j : ℕ) → i < length l → j < length l → AllPairs R l → AllPairs R (swap l i j)
    step l i j low high pairs a b d less within =
        let long = length-swap l i j in
        let inb : b < length l = omega (arith, within, long) in
        let ina : a < length l = omega (arith, inb, less) in
        let (m, lowm, ea, fa) = find a ina in
        let (n, lown, eb, fb) = find b inb in
        subst (λ (x : X). R x (get_or (swap l i j) b d)) (sym ea) (subst (λ (y : X). R (get_or l m d) y) (sym eb) (pick m n lowm lown (from-apart i j a b m n fa fb less)))
      where
        pick : (m n : ℕ) → m < length l → n < length l → ¬ (m ≡ n) → R (get_or l m d) (get_or l n d)
        pick m n lowm lown apart = elim (cases_order m n) [
          | inl same ↦ absurd (apart same)
          | inr other ↦ elim other [ inl before ↦ pairs m n d before lown | inr after ↦ turn (get_or l n d) (get_or l m d) (pairs n m d after lowm) ]
        ]

        find : (k : ℕ) → k < length l → (m : ℕ) × (m < length l) × (get_or (swap l i j) k d ≡ get_or l m d) × IsFrom i j k m
        find k lowk =
            let s = swapped_from_swap l (swap l i j) i j d low high refl in
            elim (same-cases k i) [
              | inl ki ↦ (j, high, ap (λ n. get_or (swap l i j) n d) ki ∙ s.0, inl (ki, refl))
              | inr ni ↦ elim (same-cases k j) [
                | inl kj ↦ (i, low, ap (λ n. get_or (swap l i j) n d) kj ∙ s.1, inr (inl (kj, refl)))
                | inr nj ↦ (k, lowk, s.2 k ni nj, inr (inr (ni, nj, refl)))
              ]
            ]

map-swap : {X Y : Type 0} (f : X → Y) (l : List X) (i j : ℕ) → i < length l → j < length l → map f (swap l i j) ≡ swap (map f l) i j
map-swap f [] i j low high = absurd (omega (arith, low))
map-swap f (x ∷ xs) i j low high =
    let l = x ∷ xs in
    let long = length-map l f in
    let a = get_or l i x in
    let b = get_or l j x in
    ap (map f) (sym (swap_is l i j x low high))
    ∙ map-set f (set l i b) j a
    ∙ ap (λ zs. set zs j (f a)) (map-set f l i b)
    ∙ ap (λ z. set (set (map f l) i z) j (f a)) (sym (get_or-map f l j x (f x) high))
    ∙ ap (λ z. set (set (map f l) i (get_or (map f l) j (f x))) j z) (sym (get_or-map f l i x (f x) low))
    ∙ swap_is (map f l) i j (f x) (omega (arith, low, long)) (omega (arith, high, long))

pub map-permuted : {X Y : Type 0} (f : X → Y) (xs ys : List X) → IsPermutation xs ys → IsPermutation (map f xs) (map f ys)
map-permuted {X = X} f xs ys perm =
    IsPermutation-keeps xs (λ (l : List X). IsPermutation (map f xs) (map f l)) (IsPermutation-refl (map f xs))
    (λ l i j low high h.
    let long = length-map l f in
    IsPermutation-trans (map f xs) (map f l) (map f (swap l i j)) h
    (IsPermutation-swap (map f l) (map f (swap l i j)) i j (omega (arith, low, long)) (omega (arith, high, long)) (map-swap f l i j low high)))
    ys perm
