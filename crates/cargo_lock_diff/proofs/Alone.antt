-- What stands once in a sorted list differs from its neighbours.
use Rattle.std.proofs.Common.{◌≡◌, ℕ, ◌+◌, ◌-◌, ◌<◌, ◌≤◌, Bool, true, false, cond, List, [], ◌∷◌, length, take, drop, get_or, count_by, refl, subst, sym, ap, ◌∙◌, arith, IsSorted, All}
use Rattle.std.specs.declared.cmp.Ordering.{Ordering}
use Rattle.std.specs.declared.cmp.Ordering.TheVariants.{Less, Equal, Greater}
use Rattle.std.specs.Ordering.{ordering_reverse, is_eq, is_lt, is_gt, eq_by_cmp}
use Rattle.std.specs.Cmp.{IsEquivalence, IsTotalOrder}
use Rattle.std.specs.List.{Contains}
use Rattle.std.proofs.lemmas.Cmp.{eq_by_cmp_equiv}
use Rattle.std.proofs.lemmas.List.{take-append-drop, length-take-le, get_or-take, get_or-drop, length-drop, drop_more}
use Rattle.std.proofs.lemmas.List.Elements.{All-from_get_or, All-head, All-tail}
use Rattle.std.proofs.lemmas.List.Sorted.{ranks_by, sorted_far}
use Rattle.cargo_lock_diff.specs.Pairing.{StandsOnce}
use Rattle.cargo_lock_diff.proofs.Counts.{count-append, count-cons}
use Rattle.cargo_lock_diff.proofs.Merging.{below-far, not-greater}
use Rattle.cargo_lock_diff.proofs.Once.{count-there}

-- where none passes, none is counted
pub count-none : {X : Type 0} (q : X → Bool) (xs : List X) → All (λ x. q x ≡ false) xs → count_by q xs ≡ 0
count-none q [] all = refl
count-none {X} q (x ∷ xs) all =
    count-cons q x xs ∙ ap (λ b. cond b 1 0 + count_by q xs) (All-head (λ z. q z ≡ false) x xs all)
    ∙ ap (λ n. 0 + n) (count-none q xs (All-tail (λ z. q z ≡ false) x xs all))

count-parts : {X : Type 0} (q : X → Bool) (xs : List X) (i : ℕ) → count_by q xs ≡ count_by q (take i xs) + count_by q (drop i xs)
count-parts {X} q xs i = ap (λ (zs : List X). count_by q zs) (sym (take-append-drop i xs)) ∙ count-append q (take i xs) (drop i xs)

-- two places that pass are counted twice
pub counted-twice : {X : Type 0} (q : X → Bool) (xs : List X) (i j : ℕ) (x y : X) → i < j → j < length xs
    → get_or xs i x ≡ x → get_or xs j y ≡ y → q x ≡ true → q y ≡ true → 2 ≤ count_by q xs
counted-twice {X} q xs i j x y lt within x_at y_at x_hit y_hit =
    let first : Contains (take j xs) x = (i, omega (arith, length-take-le j xs), get_or-take j xs i x lt ∙ x_at) in
    let second : Contains (drop j xs) y = (0, omega (arith, length-drop j xs), get_or-drop j xs 0 y ∙ ap (λ k. get_or xs k y) (omega arith) ∙ y_at) in
    let a = count-there q (take j xs) x first x_hit in
    let b = count-there q (drop j xs) y second y_hit in
    omega (arith, a, b, count-parts q xs j)

-- a place that passes, with none before it and none after it, is counted once
pub counted-once : {X : Type 0} (q : X → Bool) (xs : List X) (i : ℕ) (x : X) → i < length xs → x ≡ get_or xs i x → q x ≡ true
    → All (λ z. q z ≡ false) (take i xs) → All (λ z. q z ≡ false) (drop (i + 1) xs) → count_by q xs ≡ 1
counted-once {X} q xs i x within at hit before after =
    let first : count_by q (take i xs) ≡ 0 = count-none q (take i xs) before in
    let last : count_by q (drop (i + 1) xs) ≡ 0 = count-none q (drop (i + 1) xs) after in
    let here : drop i xs ≡ x ∷ drop (i + 1) xs = drop_more xs i x within ∙ ap (λ z. z ∷ drop (i + 1) xs) (sym at) in
    let it : count_by q (drop i xs) ≡ 1 + count_by q (drop (i + 1) xs)
    = ap (λ (zs : List X). count_by q zs) here ∙ count-cons q x (drop (i + 1) xs) ∙ ap (λ b. cond b 1 0 + count_by q (drop (i + 1) xs)) hit in
    omega (arith, first, last, it, count-parts q xs i)

less-from : (r : Ordering) → is_eq r ≡ false → is_gt r ≡ false → r ≡ Less
less-from Less e g = refl
less-from Equal e g = absurd cc
less-from Greater e g = absurd cc

module _ {X : Type 0} {cmp : X → X → Ordering} (o : IsTotalOrder cmp) where
  -- z is not above p, and p below x
  up-far : (z p x : X) (r : Ordering) → cmp z p ≡ r → is_gt r ≡ false → cmp p x ≡ Less → eq_by_cmp cmp x z ≡ false
  up-far z p x Less e g h = ap is_eq (o.antisymm x z ∙ ap ordering_reverse (o.trans z p x e h))
  up-far z p x Equal e g h = ap is_eq (o.antisymm x z ∙ ap ordering_reverse (o.congr z p x e ∙ h))
  up-far z p x Greater e g h = absurd cc

  -- of two places of a sorted list the first is not above the second
  pub up-to : (xs : List X) → IsSorted cmp xs → (i j : ℕ) (d : X) → i ≤ j → j < length xs → is_gt (cmp (get_or xs i d) (get_or xs j d)) ≡ false
  up-to xs up i j d le within =
      not-greater _ _ (o.antisymm (get_or xs j d) (get_or xs i d)) (sorted_far (λ a b. is_lt (cmp a b)) (ranks_by o (λ a. a)) xs up i j d le within)

  none-before : (xs : List X) → IsSorted cmp xs → (i : ℕ) (x : X) → i < length xs → x ≡ get_or xs i x
      → (0 < i → eq_by_cmp cmp (get_or xs (i - 1) x) x ≡ false) → All (λ z. eq_by_cmp cmp x z ≡ false) (take i xs)
  none-before xs up i x within at apart = All-from_get_or (λ z. eq_by_cmp cmp x z ≡ false) (take i xs) x
      (λ k lt.
      let k_below : k < i = omega (arith, length-take-le i xs) in
      let p : X = get_or xs (i - 1) x in
      let step : is_gt (cmp p x) ≡ false = subst (λ (z : X). is_gt (cmp p z) ≡ false) (sym at) (up-to xs up (i - 1) i x (omega arith) within) in
      let below : cmp p x ≡ Less = less-from (cmp p x) (apart (omega arith)) step in
      subst (λ (z : X). eq_by_cmp cmp x z ≡ false) (sym (get_or-take i xs k x k_below))
      (up-far (get_or xs k x) p x (cmp (get_or xs k x) p) refl (up-to xs up k (i - 1) x (omega arith) (omega arith)) below))

  none-after : (xs : List X) → IsSorted cmp xs → (i : ℕ) (x : X) → i < length xs → x ≡ get_or xs i x
      → (i + 1 < length xs → eq_by_cmp cmp x (get_or xs (i + 1) x) ≡ false) → All (λ z. eq_by_cmp cmp x z ≡ false) (drop (i + 1) xs)
  none-after xs up i x within at apart = All-from_get_or (λ z. eq_by_cmp cmp x z ≡ false) (drop (i + 1) xs) x
      (λ k lt.
      let in_list : (i + 1) + k < length xs = omega (arith, length-drop (i + 1) xs) in
      let y : X = get_or xs (i + 1) x in
      let z : X = get_or xs ((i + 1) + k) x in
      let step : is_gt (cmp x y) ≡ false = subst (λ (w : X). is_gt (cmp w y) ≡ false) (sym at) (up-to xs up i (i + 1) x (omega arith) (omega arith)) in
      let below : cmp x y ≡ Less = less-from (cmp x y) (apart (omega arith)) step in
      subst (λ (w : X). eq_by_cmp cmp x w ≡ false) (sym (get_or-drop (i + 1) xs k x))
      (below-far o x y z (cmp y z) refl below (up-to xs up (i + 1) ((i + 1) + k) x (omega arith) in_list)))

  -- neither neighbour ties: it stands once
  pub alone : (xs : List X) → IsSorted cmp xs → (i : ℕ) (x : X) → i < length xs → x ≡ get_or xs i x
      → (0 < i → eq_by_cmp cmp (get_or xs (i - 1) x) x ≡ false) → (i + 1 < length xs → eq_by_cmp cmp x (get_or xs (i + 1) x) ≡ false)
      → StandsOnce (eq_by_cmp cmp) x xs
  alone xs up i x within at before after =
      let laws : IsEquivalence (eq_by_cmp cmp) = eq_by_cmp_equiv o in
      counted-once (eq_by_cmp cmp x) xs i x within at (laws.refl x) (none-before xs up i x within at before) (none-after xs up i x within at after)

  -- the one before it ties
  pub tied-before : (xs : List X) (i : ℕ) (x y : X) → 0 < i → i < length xs → x ≡ get_or xs i x → y ≡ get_or xs (i - 1) y → eq_by_cmp cmp y x ≡ true
      → StandsOnce (eq_by_cmp cmp) x xs → ⊥
  tied-before xs i x y some within at y_at tie once =
      let laws : IsEquivalence (eq_by_cmp cmp) = eq_by_cmp_equiv o in
      let n = counted-twice (eq_by_cmp cmp x) xs (i - 1) i y x (omega arith) within (sym y_at) (sym at) (laws.symm x y ∙ tie) (laws.refl x) in
      omega (arith, n, once)

  -- the one after it ties
  pub tied-after : (xs : List X) (i : ℕ) (x y : X) → i + 1 < length xs → x ≡ get_or xs i x → y ≡ get_or xs (i + 1) y → eq_by_cmp cmp x y ≡ true
      → StandsOnce (eq_by_cmp cmp) x xs → ⊥
  tied-after xs i x y within at y_at tie once =
      let laws : IsEquivalence (eq_by_cmp cmp) = eq_by_cmp_equiv o in
      let n = counted-twice (eq_by_cmp cmp x) xs i (i + 1) x y (omega arith) within (sym at) (sym y_at) (laws.refl x) tie in
      omega (arith, n, once)
