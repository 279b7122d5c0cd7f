-- Places of a list at which something holds, one place after another.
use Rattle.std.proofs.Common.{◌≡◌, ◌<◌, ◌+◌, ◌-◌, All, inl, inr, ℕ, List, [], ◌∷◌, ◌++◌, ◌↔◌, Bool, true, false, cond, length, get_or, refl, sym, ap, subst, ◌∙◌, arith, length-append}
use Rattle.std.specs.List.{Contains}
use Rattle.std.specs.List.Sorted.{IsStrictlyIncreasing}
use Rattle.std.proofs.lemmas.Bool.{cases_eq, false≢true}
use Rattle.std.proofs.lemmas.List.{get_or_append_left, get_or-append_right}
use Rattle.std.proofs.lemmas.List.Elements.{Contains-append_left, Contains-get_or, Contains-push, Contains-push_cases}
use Rattle.lists.specs.Places.{IsPlaces}

-- no place is below 0
pub places-none : (P : ℕ → Type 0) → IsPlaces P 0 []
places-none P = record {
  ascending = λ k lt. absurd (omega arith);
  listed = λ k. (λ c. absurd (let b = c.1 in omega (arith, b)), λ h. absurd (let b = h.0 in omega (arith, b)));
}

-- numbers that rise and are below one more, and that one
pub increasing-push : (xs : List ℕ) (n : ℕ) → IsStrictlyIncreasing xs → ((k : ℕ) → k < length xs → get_or xs k 0 < n) → IsStrictlyIncreasing (xs ++ n ∷ [])
increasing-push xs n up below k lt =
    let count = length-append xs (n ∷ []) in
    let here : get_or (xs ++ n ∷ []) k 0 ≡ get_or xs k 0 = get_or_append_left xs (n ∷ []) 0 k (omega (arith, count)) in
    elim (cases_eq (k + 1) (length xs)) [
      | inl last ↦
          let next : get_or (xs ++ n ∷ []) (k + 1) 0 ≡ n = get_or-append_right xs (n ∷ []) (k + 1) (k + 1) 0 (sym last) (omega arith) ∙ ap (λ i. get_or (n ∷ []) i 0) (let z : k + 1 - (k + 1) ≡ 0 = omega arith in z) in
          let low = below k (omega (arith, last)) in
          omega (arith, here, next, low)
      | inr more ↦
          let next : get_or (xs ++ n ∷ []) (k + 1) 0 ≡ get_or xs (k + 1) 0 = get_or_append_left xs (n ∷ []) 0 (k + 1) (omega (arith, count, more)) in
          let rise = up k (omega (arith, count, more)) in
          omega (arith, here, next, rise)
    ]

-- one more place, at which P holds
pub places-put : (P : ℕ → Type 0) (n m : ℕ) (xs ys : List ℕ) → IsPlaces P n xs → P n → m ≡ n + 1 → ys ≡ xs ++ n ∷ [] → IsPlaces P m ys
places-put P n m xs ys is here e f =
    rw (e, f) record {
      ascending = increasing-push xs n is.ascending (λ k lt. ((is.listed (get_or xs k 0)).0 (Contains-get_or xs k 0 lt)).0);
      listed = λ k. (
        λ c. elim (Contains-push_cases xs n k c) [
          | inl old ↦ let h = (is.listed k).0 old in (let low = h.0 in omega (arith, low), h.1)
          | inr new ↦ (omega (arith, new), subst P new here)
        ],
        λ h. elim (cases_eq k n) [
          | inl new ↦ subst (λ x. Contains (xs ++ n ∷ []) x) (sym new) (Contains-push xs n)
          | inr old ↦ Contains-append_left xs (n ∷ []) k ((is.listed k).1 (let low = h.0 in omega (arith, low, old), h.1))
        ],
      );
    }

-- one more place, at which P does not hold
pub places-pass : (P : ℕ → Type 0) (n m : ℕ) (xs : List ℕ) → IsPlaces P n xs → ¬ P n → m ≡ n + 1 → IsPlaces P m xs
places-pass P n m xs is miss e =
    rw e record {
      ascending = is.ascending;
      listed = λ k. (
        λ c. let h = (is.listed k).0 c in (let low = h.0 in omega (arith, low), h.1),
        λ h. elim (cases_eq k n) [
          | inl new ↦ absurd (miss (subst P new h.1))
          | inr old ↦ (is.listed k).1 (let low = h.0 in omega (arith, low, old), h.1)
        ],
      );
    }

-- one more place, at which P was tested
pub places-tested : (P : ℕ → Type 0) (n m : ℕ) (xs ys : List ℕ) (b : Bool) → IsPlaces P n xs → (b ≡ true) ↔ P n → m ≡ n + 1 → ys ≡ cond b (xs ++ n ∷ []) xs → IsPlaces P m ys
places-tested P n m xs ys true is tells e f = places-put P n m xs ys is (tells.0 refl) e f
places-tested P n m xs ys false is tells e f = rw f (places-pass P n m xs is (λ h. false≢true (tells.1 h)) e)

-- the same places, up to the same bound
pub places-end : (P : ℕ → Type 0) (n m : ℕ) (xs : List ℕ) → IsPlaces P n xs → n ≡ m → IsPlaces P m xs
places-end P n m xs is e = subst (λ k. IsPlaces P k xs) e is

-- the places are below the bound
pub places-within : (P : ℕ → Type 0) (n : ℕ) (xs : List ℕ) → IsPlaces P n xs → All (λ k. k < n) xs
places-within P n xs is k d low = ((is.listed (get_or xs k d)).0 (Contains-get_or xs k d low)).0

-- the same places, by another predicate that holds at them
pub places-alike : (P Q : ℕ → Type 0) (n : ℕ) (xs : List ℕ) → ((k : ℕ) → P k → Q k) → ((k : ℕ) → Q k → P k) → IsPlaces P n xs → IsPlaces Q n xs
places-alike P Q n xs to from is = record {
  ascending = is.ascending;
  listed = λ k. (
    λ c. let h = (is.listed k).0 c in (h.0, to k h.1),
    λ h. (is.listed k).1 (h.0, from k h.1),
  );
}
