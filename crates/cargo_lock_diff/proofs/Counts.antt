-- How often what is left of two lists stands in them.
use Rattle.std.proofs.Common.{◌≡◌, ℕ, ◌+◌, ◌-◌, zero, suc, Bool, true, false, cond, List, [], ◌∷◌, ◌++◌, ◌⊎◌, inl, inr, count_by, refl, ap, sym, ◌∙◌, arith, IsPermutation, All}
use Rattle.std.specs.Cmp.{IsEquivalence}
use Rattle.std.specs.List.{Contains}
use Rattle.std.proofs.lemmas.List.Elements.{All-contains, All-head, All-tail, Contains-append_right, Contains-get_or}
use Rattle.std.proofs.lemmas.List.Sums.{sum_by-append, sum_by-cons}
use Rattle.std.proofs.lemmas.List.Sorted.{sum_by-IsPermutation}
use Rattle.cargo_lock_diff.specs.Matching.{PassesWithNone, firsts, seconds}

pub count-cons : {X : Type 0} (q : X → Bool) (x : X) (xs : List X) → count_by q (x ∷ xs) ≡ cond (q x) 1 0 + count_by q xs
count-cons q x xs = sum_by-cons (λ y. cond (q y) 1 0) x xs

pub count-append : {X : Type 0} (q : X → Bool) (xs ys : List X) → count_by q (xs ++ ys) ≡ count_by q xs + count_by q ys
count-append q xs ys = sum_by-append (λ y. cond (q y) 1 0) xs ys

pub count-permutation : {X : Type 0} (q : X → Bool) (xs ys : List X) → IsPermutation xs ys → count_by q ys ≡ count_by q xs
count-permutation q xs ys p = sum_by-IsPermutation (λ y. cond (q y) 1 0) xs ys p

-- what is counted is there
pub counted : {X : Type 0} (q : X → Bool) (xs : List X) (n : ℕ) → count_by q xs ≡ suc n → (y : X) × Contains xs y × (q y ≡ true)
counted q [] n h = absurd (omega (arith, h))
counted {X} q (x ∷ xs) n h = go (q x) refl (counted q xs n)
  where
    go : (b : Bool) → q x ≡ b → (count_by q xs ≡ suc n → (y : X) × Contains xs y × (q y ≡ true)) → (y : X) × Contains (x ∷ xs) y × (q y ≡ true)
    go true hit later = (x, Contains-get_or (x ∷ xs) 0 x (omega arith), hit)
    go false miss later =
        let e : count_by q (x ∷ xs) ≡ cond false 1 0 + count_by q xs = count-cons q x xs ∙ ap (λ b. cond b 1 0 + count_by q xs) miss in
        let r = later (omega (arith, e, h)) in (r.0, Contains-append_right (x ∷ []) xs r.0 r.1, r.2)

pair-counts : {X : Type 0} (same : X → X → Bool) → IsEquivalence same → (p : X) (pairs : List (X × X)) → All (λ q. same q.0 q.1 ≡ true) pairs
    → count_by (same p) (firsts pairs) ≡ count_by (same p) (seconds pairs)
pair-counts same laws p [] all = refl
pair-counts {X} same laws p (q ∷ qs) all =
    let hit : same q.0 q.1 ≡ true = All-head (λ (r : X × X). same r.0 r.1 ≡ true) q qs all in
    let one : same p q.0 ≡ same p q.1 = laws.symm p q.0 ∙ laws.congr q.0 q.1 p hit ∙ sym (laws.symm p q.1) in
    let rest = pair-counts same laws p qs (All-tail (λ (r : X × X). same r.0 r.1 ≡ true) q qs all) in
    count-cons (same p) q.0 (firsts qs) ∙ (λ i. cond (one i) 1 0 + rest i) ∙ sym (count-cons (same p) q.1 (seconds qs))

-- of what is left on both sides, one side has nothing like p
one-side : {X : Type 0} (same : X → X → Bool) → IsEquivalence same → (p : X) (old new : List X) → All (λ o. PassesWithNone same o new) old
    → (m n : ℕ) → count_by (same p) old ≡ m → count_by (same p) new ≡ n → (m ≡ 0) ⊎ (n ≡ 0)
one-side same laws p old new apart zero n e f = inl refl
one-side same laws p old new apart (suc m) zero e f = inr refl
one-side {X} same laws p old new apart (suc m) (suc n) e f =
    let o = counted (same p) old m e in
    let k = counted (same p) new n f in
    let alike : same o.0 k.0 ≡ true = sym (laws.congr p o.0 k.0 o.2) ∙ k.2 in
    let none : PassesWithNone same o.0 new = All-contains (λ (x : X). PassesWithNone same x new) old o.0 apart o.1 in
    let other : same o.0 k.0 ≡ false = All-contains (λ (y : X). same o.0 y ≡ false) new k.0 none k.1 in
    cc (alike, other)

pub left-counts : {X : Type 0} (same : X → X → Bool) → IsEquivalence same → (p : X) (olds news : List X) (kept : List (X × X)) (old new : List X)
    → IsPermutation olds (firsts kept ++ old) → IsPermutation news (seconds kept ++ new) → All (λ q. same q.0 q.1 ≡ true) kept
    → All (λ o. PassesWithNone same o new) old
    → (count_by (same p) old ≡ count_by (same p) olds - count_by (same p) news) × (count_by (same p) new ≡ count_by (same p) news - count_by (same p) olds)
left-counts same laws p olds news kept old new po pn kept_alike apart =
    let a : count_by (same p) olds ≡ count_by (same p) (firsts kept) + count_by (same p) old
    = sym (count-permutation (same p) olds (firsts kept ++ old) po) ∙ count-append (same p) (firsts kept) old in
    let b : count_by (same p) news ≡ count_by (same p) (seconds kept) + count_by (same p) new
    = sym (count-permutation (same p) news (seconds kept ++ new) pn) ∙ count-append (same p) (seconds kept) new in
    let e = pair-counts same laws p kept kept_alike in
    finish _ _ _ _ _ _ a b e (one-side same laws p old new apart _ _ refl refl)
  where
    finish : (a b x y o n : ℕ) → a ≡ x + o → b ≡ y + n → x ≡ y → (o ≡ 0) ⊎ (n ≡ 0) → (o ≡ a - b) × (n ≡ b - a)
    finish a b x y o n ea eb e (inl z) = (omega arith, omega arith)
    finish a b x y o n ea eb e (inr z) = (omega arith, omega arith)
