-- Packages at distinct places, in another order.
use Rattle.std.proofs.Common.{◌≡◌, ◌≢◌, ◌<◌, ◌≤◌, inl, inr, ℕ, zero, suc, Bool, false, cond, eqb, List, [], ◌∷◌, length, get_or, refl, sym, ap, ◌∙◌, arith}
use Rattle.std.specs.Prelude.{sum_by}
use Rattle.std.specs.List.Sorted.{IsPermutation}
use Rattle.std.proofs.lemmas.Bool.{cases_Bool, eq-eqb, eqb-true}
use Rattle.std.proofs.lemmas.List.Sorted.{sum_by-IsPermutation}
use Rattle.std.proofs.lemmas.List.Sums.{sum_by-cons}
use Rattle.cargo_lock_merge_core.specs.Placed.{HasOneAtEach, PlacedData}

-- 1 at the number, else 0
is-at : ℕ → PlacedData ℕ → ℕ
is-at n x = cond (eqb x.place n) 1 0

here : (n : ℕ) (x : PlacedData ℕ) → x.place ≡ n → is-at n x ≡ 1
unfolding is-at
here n x is = ap {B = ℕ} (λ (b : Bool). cond b 1 0) (eq-eqb x.place n is)

elsewhere : (n : ℕ) (x : PlacedData ℕ) → eqb x.place n ≡ false → is-at n x ≡ 0
unfolding is-at
elsewhere n x e = ap {B = ℕ} (λ (b : Bool). cond b 1 0) e

tail-one : (x : PlacedData ℕ) (xs : List (PlacedData ℕ)) → HasOneAtEach (x ∷ xs) → HasOneAtEach xs
tail-one x xs h i j d less low = h (suc i) (suc j) d (omega (arith, less)) (omega (arith, low))

none-at : (n : ℕ) (xs : List (PlacedData ℕ)) → ((k : ℕ) (d : PlacedData ℕ) → k < length xs → (get_or xs k d).place ≢ n) → sum_by (is-at n) xs ≡ 0
none-at n [] h = refl
none-at n (x ∷ xs) h =
    let none = none-at n xs (λ k d low. h (suc k) d (omega (arith, low))) in
    let sum = sum_by-cons (is-at n) x xs in
    elim (cases_Bool (eqb x.place n)) [
      | inl e ↦ absurd (h 0 x (omega arith) (eqb-true x.place n e))
      | inr e ↦ let zero-here = elsewhere n x e in omega (arith, none, sum, zero-here)
    ]

once-at : (n : ℕ) (xs : List (PlacedData ℕ)) → HasOneAtEach xs → sum_by (is-at n) xs ≤ 1
once-at n [] h = omega arith
once-at n (x ∷ xs) h =
    let sum = sum_by-cons (is-at n) x xs in
    elim (cases_Bool (eqb x.place n)) [
      | inl e ↦
          let none = none-at n xs (λ k d low is. h 0 (suc k) d (omega arith) (omega (arith, low)) (eqb-true x.place n e ∙ sym is)) in
          let one = here n x (eqb-true x.place n e) in omega (arith, none, sum, one)
      | inr e ↦ let one = once-at n xs (tail-one x xs h) in let none = elsewhere n x e in omega (arith, one, sum, none)
    ]

at-index : (n : ℕ) (xs : List (PlacedData ℕ)) (k : ℕ) (d : PlacedData ℕ) → k < length xs → (get_or xs k d).place ≡ n → 1 ≤ sum_by (is-at n) xs
at-index n [] k d low is = absurd (omega (arith, low))
at-index n (x ∷ xs) zero d low is = let sum = sum_by-cons (is-at n) x xs in let one = here n x is in omega (arith, sum, one)
at-index n (x ∷ xs) (suc k) d low is = let sum = sum_by-cons (is-at n) x xs in let more = at-index n xs k d (omega (arith, low)) is in omega (arith, more, sum)

at-two : (n : ℕ) (xs : List (PlacedData ℕ)) (i j : ℕ) (d : PlacedData ℕ) → i < j → j < length xs → (get_or xs i d).place ≡ n → (get_or xs j d).place ≡ n → 2 ≤ sum_by (is-at n) xs
at-two n [] i j d less low a b = absurd (omega (arith, low))
at-two n (x ∷ xs) i zero d less low a b = absurd (omega (arith, less))
at-two n (x ∷ xs) zero (suc j) d less low a b =
    let sum = sum_by-cons (is-at n) x xs in
    let one = here n x a in
    let more = at-index n xs j d (omega (arith, low)) b in omega (arith, one, more, sum)
at-two n (x ∷ xs) (suc i) (suc j) d less low a b =
    let sum = sum_by-cons (is-at n) x xs in
    let more = at-two n xs i j d (omega (arith, less)) (omega (arith, low)) a b in omega (arith, more, sum)

-- in another order they are at distinct places too
pub one-permuted : (xs ys : List (PlacedData ℕ)) → IsPermutation xs ys → HasOneAtEach xs → HasOneAtEach ys
one-permuted xs ys p h i j d less low same =
    let n = (get_or ys j d).place in
    let two = at-two n ys i j d less low same refl in
    let one = once-at n xs h in
    let is = sum_by-IsPermutation (is-at n) xs ys p in
    omega (arith, two, one, is)
