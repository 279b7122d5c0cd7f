-- A part of a text, place by place.
use Rattle.std.proofs.Common.{◌≡◌, ◌∙◌, ◌++◌, ◌<◌, ◌+◌, ◌-◌, ◌⊎◌, inl, inr, ℕ, List, Bool, true, false, take, drop, length, nat_eq, sym, ap, arith, length-append, length-drop}
use Rattle.std.specs.Bool.{Decides}
use Rattle.std.specs.List.{starts_with}
use Rattle.std.specs.Str.Iter.{HasSubslice}
use Rattle.std.proofs.lemmas.Bool.{cases_eq, false≢true}
use Rattle.std.proofs.lemmas.Bool.Decides.{Decides-eqb}
use Rattle.std.proofs.lemmas.List.{take-append-drop, take_all}
use Rattle.std.proofs.lemmas.Slice.Eq.{starts_is}
use Rattle.std.proofs.Math.Seq.{drop-append_seam}

-- what is read from a place on
rest-from : (text : List ℕ) (n : ℕ) → take (length text - n) (drop n text) ≡ drop n text
rest-from text n = take_all (length text - n) (drop n text) (let e = length-drop n text in omega (arith, e))

-- the part is there
pub part-here : (text part : List ℕ) (n : ℕ) (b : Bool) → b ≡ starts_with nat_eq (take (length text - n) (drop n text)) part → b ≡ true → HasSubslice text part
part-here text part n b is hit =
    let begins = (starts_is Decides-eqb (drop n text) part b (is ∙ ap (λ s. starts_with nat_eq s part) (rest-from text n))).0 hit in
    (take n text, drop (length part) (drop n text), sym (take-append-drop n text) ∙ ap (λ s. take n text ++ s) begins)

-- one more place, at which the part is not
pub not-here : (text part : List ℕ) (n : ℕ) (b : Bool) → b ≡ starts_with nat_eq (take (length text - n) (drop n text)) part → b ≡ false
    → ((k : ℕ) (rest : List ℕ) → k < n → ¬ (drop k text ≡ part ++ rest)) → (k : ℕ) (rest : List ℕ) → k < n + 1 → ¬ (drop k text ≡ part ++ rest)
not-here text part n b is miss before k rest low e = elim (cases_eq k n) [
  | inl same ↦
      false≢true (sym miss ∙ (starts_is Decides-eqb (drop n text) part b (is ∙ ap (λ s. starts_with nat_eq s part) (rest-from text n))).1 rest
      (ap (λ i. drop i text) (sym same) ∙ e))
  | inr other ↦ before k rest (omega (arith, low, other)) e
]

-- the part is at no place
pub part-nowhere : (text part : List ℕ) (n : ℕ) → length text < n → ((k : ℕ) (rest : List ℕ) → k < n → ¬ (drop k text ≡ part ++ rest)) → ¬ HasSubslice text part
part-nowhere text part n past none has =
    let a : List ℕ = has.0 in
    let long : length text ≡ length a + length (part ++ has.1) = ap length has.2 ∙ length-append a (part ++ has.1) in
    none (length a) has.1 (omega (arith, past, long)) (ap (drop (length a)) has.2 ∙ drop-append_seam a (part ++ has.1))

-- ---- one or the other

-- the first holds
pub decides-first : {P Q : Type 0} (a r : Bool) → a ≡ true → r ≡ a → Decides a P → Decides r (P ⊎ Q)
decides-first a r hit is tells = (λ h. inl (tells.0 hit), λ h. is ∙ hit)

-- the first does not hold, and the second is told
pub decides-second : {P Q : Type 0} (a b r : Bool) → a ≡ false → r ≡ b → Decides a P → Decides b Q → Decides r (P ⊎ Q)
decides-second {P} {Q} a b r miss is one two = (λ h. inr (two.0 (sym is ∙ h)), back)
  where
    back : P ⊎ Q → r ≡ true
    back (inl p) = absurd (false≢true (sym miss ∙ one.1 p))
    back (inr q) = is ∙ two.1 q
