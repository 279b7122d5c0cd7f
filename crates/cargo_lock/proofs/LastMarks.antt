-- What stands before the last of some bytes.
use Rattle.std.proofs.Common.{◌≡◌, ◌<◌, ◌+◌, inl, inr, ℕ, zero, suc, eqb, List, length, get_or, take, Option, None, Some, MatchOption, unwrap_or, refl, sym, ap, ◌∙◌, arith, eq-eqb, ne_eqb}
use Rattle.std.specs.Path.{rfind_below}
use Rattle.std.proofs.lemmas.Bool.{cases_eq, cond-true, cond-false}
use Rattle.cargo_lock.specs.LossySources.{before_last}

none-below : (c : ℕ) (text : List ℕ) (n : ℕ) → ((i : ℕ) → i < n → get_or text i 0 ≡ c → ⊥) → rfind_below c text n ≡ None
none-below c text zero h = refl
none-below c text (suc n) h = cond-false _ _ _ (ne_eqb _ c (h n (omega arith))) ∙ none-below c text n (λ i l. h i (omega arith))

some-below : (c : ℕ) (text : List ℕ) (k n : ℕ) → k < n → get_or text k 0 ≡ c → ((i : ℕ) → k < i → i < n → get_or text i 0 ≡ c → ⊥) → rfind_below c text n ≡ Some k
some-below c text k zero l at h = absurd (omega arith)
some-below c text k (suc n) l at h = elim (cases_eq k n) [
  | inl e ↦ cond-true _ _ _ (eq-eqb _ c (ap (λ j. get_or text j 0) (sym e) ∙ at)) ∙ ap (λ j. Some j) (sym e)
  | inr other ↦ cond-false _ _ _ (ne_eqb _ c (h n (omega arith) (omega arith))) ∙ some-below c text k n (omega arith) at (λ i a b. h i a (omega arith))
]

-- how many bytes stand before the last of these
pub last-mark : (c : ℕ) (text : List ℕ) (r : Option ℕ)
    → MatchOption r ((i : ℕ) → i < length text → get_or text i 0 ≡ c → ⊥)
    (λ k. (k < length text) × (get_or text k 0 ≡ c) × ((i : ℕ) → k < i → i < length text → get_or text i 0 ≡ c → ⊥))
    → take (unwrap_or r (length text)) text ≡ before_last c text
last-mark c text None h = ap (λ o. take (unwrap_or o (length text)) text) (sym (none-below c text (length text) h))
last-mark c text (Some k) h = ap (λ o. take (unwrap_or o (length text)) text) (sym (some-below c text k (length text) h.0 h.1 h.2))
