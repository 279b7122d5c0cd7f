-- Pairing by what stands once.
use Rattle.std.proofs.Common.{append_assoc, ◌≡◌, ℕ, ◌+◌, ◌≤◌, zero, suc, Bool, true, false, cond, List, [], ◌∷◌, ◌++◌, count_by, map, refl, ap, sym, ◌∙◌, subst, arith, IsPermutation, All}
use Rattle.std.specs.Cmp.{IsEquivalence}
use Rattle.std.specs.List.{Contains}
use Rattle.std.proofs.lemmas.List.Elements.{All-contains, All-head, All-tail, All-nil, All-cons, All-weaker, All-map}
use Rattle.std.proofs.lemmas.List.Sorted.{IsPermutation-append_left, IsPermutation-append_right, IsPermutation-trans, All-permutation}
use Rattle.cargo_lock_diff.specs.Matching.{AreMatched, PassesWithNone, firsts, seconds}
use Rattle.cargo_lock_diff.specs.Pairing.{ArePaired, AreSplit, StandsOnce, NoneOnBothSides, IsFiner, exchanged_pair}
use Rattle.cargo_lock_diff.proofs.Counts.{count-append, count-cons, count-permutation, counted}

-- ---- counting

-- what is like x is like y, where x is like y
pub count-congr : {X : Type 0} (same : X → X → Bool) → IsEquivalence same → (x y : X) → same x y ≡ true → (xs : List X) → count_by (same x) xs ≡ count_by (same y) xs
count-congr {X} same laws x y h xs = λ i. count_by (λ z. laws.congr x y z h i) xs

-- where none is counted, none passes
pub none-counted : {X : Type 0} (q : X → Bool) (xs : List X) → count_by q xs ≡ 0 → All (λ x. q x ≡ false) xs
none-counted q [] e = All-nil (λ x. q x ≡ false)
none-counted {X} q (x ∷ xs) e = go (q x) refl (none-counted q xs)
  where
    go : (b : Bool) → q x ≡ b → (count_by q xs ≡ 0 → All (λ z. q z ≡ false) xs) → All (λ z. q z ≡ false) (x ∷ xs)
    go true hit later =
        let f : count_by q (x ∷ xs) ≡ cond true 1 0 + count_by q xs = count-cons q x xs ∙ ap (λ b. cond b 1 0 + count_by q xs) hit in
        absurd (omega (arith, e, f))
    go false miss later =
        let f : count_by q (x ∷ xs) ≡ cond false 1 0 + count_by q xs = count-cons q x xs ∙ ap (λ b. cond b 1 0 + count_by q xs) miss in
        All-cons (λ z. q z ≡ false) x xs miss (later (omega (arith, e, f)))

-- what is there is counted
pub count-there : {X : Type 0} (q : X → Bool) (xs : List X) (x : X) → Contains xs x → q x ≡ true → 1 ≤ count_by q xs
count-there {X} q xs x there hit = go (count_by q xs) refl
  where
    go : (n : ℕ) → count_by q xs ≡ n → 1 ≤ count_by q xs
    go zero e = let miss : q x ≡ false = All-contains (λ z. q z ≡ false) xs x (none-counted q xs e) there in cc (hit, miss)
    go (suc n) e = omega (arith, e)

-- ---- one list, split

-- what stands once among some of those that stood once and all others is like one of the first
one-of-alone : {X : Type 0} (same : X → X → Bool) → IsEquivalence same → (all alone others some : List X) → AreSplit same all alone others
    → (x : X) → StandsOnce same x (some ++ others) → (y : X) × Contains some y × (same x y ≡ true)
one-of-alone {X} same laws all alone others some split x h = by_rest (count_by (same x) others) refl
  where
    whole : count_by (same x) all ≡ count_by (same x) alone + count_by (same x) others
    whole = sym (count-permutation (same x) all (alone ++ others) split.told) ∙ count-append (same x) alone others

    part : 1 ≡ count_by (same x) some + count_by (same x) others
    part = sym h ∙ count-append (same x) some others

    -- one of the others is like x: so is one that stood once
    clash : (y : X) → Contains others y → same x y ≡ true → (n : ℕ) → count_by (same x) alone ≡ n → count_by (same x) others ≡ 1 → ⊥
    clash y there like zero e f =
        All-contains (λ z. StandsOnce same z all → ⊥) others y split.more there (sym (count-congr same laws x y like all) ∙ whole ∙ omega (arith, e, f))
    clash y there like (suc n) e f =
        let z = counted (same x) alone n e in
        let once : StandsOnce same z.0 all = All-contains (λ w. StandsOnce same w all) alone z.0 split.once z.1 in
        All-contains (λ w. StandsOnce same w all → ⊥) others y split.more there
        (sym (count-congr same laws x y like all) ∙ count-congr same laws x z.0 z.2 all ∙ once)

    by_rest : (n : ℕ) → count_by (same x) others ≡ n → (y : X) × Contains some y × (same x y ≡ true)
    by_rest zero e = counted (same x) some 0 (omega (arith, e, part))
    by_rest (suc n) e = let y = counted (same x) others n e in absurd (clash y.0 y.1 y.2 (count_by (same x) alone) refl (omega (arith, e, part)))

-- ---- both lists

rest-told : {X : Type 0} (all alone others front some left : List X) → IsPermutation all (alone ++ others) → IsPermutation alone (front ++ some)
    → IsPermutation (some ++ others) left → IsPermutation all (front ++ left)
rest-told {X} all alone others front some left p q r =
    IsPermutation-trans all (alone ++ others) (front ++ left) p
    (IsPermutation-trans (alone ++ others) (front ++ (some ++ others)) (front ++ left)
    (subst (λ (zs : List X). IsPermutation (alone ++ others) zs) (append_assoc front some others) (IsPermutation-append_left others alone (front ++ some) q))
    (IsPermutation-append_right front (some ++ others) left r))

-- of members of pairs that make up a part of a list
pairs-first : {X : Type 0} (P : X → Type 0) (pairs : List (X × X)) (some alone : List X) → IsPermutation alone (firsts pairs ++ some) → All P alone → All (λ p. P p.0) pairs
pairs-first {X} P pairs some alone told all = from pairs (All-permutation P alone (firsts pairs ++ some) told all)
  where
    from : (ps : List (X × X)) → All P (firsts ps ++ some) → All (λ p. P p.0) ps
    from [] h = All-nil (λ p. P p.0)
    from (p ∷ ps) h = All-cons (λ p. P p.0) p ps (All-head P p.0 (firsts ps ++ some) h) (from ps (All-tail P p.0 (firsts ps ++ some) h))

pairs-second : {X : Type 0} (P : X → Type 0) (pairs : List (X × X)) (some alone : List X) → IsPermutation alone (seconds pairs ++ some) → All P alone → All (λ p. P p.1) pairs
pairs-second {X} P pairs some alone told all = from pairs (All-permutation P alone (seconds pairs ++ some) told all)
  where
    from : (ps : List (X × X)) → All P (seconds ps ++ some) → All (λ p. P p.1) ps
    from [] h = All-nil (λ p. P p.1)
    from (p ∷ ps) h = All-cons (λ p. P p.1) p ps (All-head P p.1 (seconds ps ++ some) h) (from ps (All-tail P p.1 (seconds ps ++ some) h))

-- the matching of what stands once in each list, with all others left
pub paired : {X : Type 0} (same : X → X → Bool) → IsEquivalence same → (olds news old_alone new_alone old_others new_others : List X) (pairs : List (X × X)) (o n old new : List X)
    → AreSplit same olds old_alone old_others → AreSplit same news new_alone new_others → AreMatched same old_alone new_alone pairs o n
    → IsPermutation (o ++ old_others) old → IsPermutation (n ++ new_others) new → ArePaired same olds news pairs old new
paired {X} same laws olds news old_alone new_alone old_others new_others pairs o n old new so sn m po pn = record {
  olds_told = rest-told olds old_alone old_others (firsts pairs) o old so.told m.olds_told po;
  news_told = rest-told news new_alone new_others (seconds pairs) n new sn.told m.news_told pn;
  alike = m.paired;
  olds_once = pairs-first (λ x. StandsOnce same x olds) pairs o old_alone m.olds_told so.once;
  news_once = pairs-second (λ x. StandsOnce same x news) pairs n new_alone m.news_told sn.once;
  none_left = λ x h k.
      let a = one-of-alone same laws olds old_alone old_others o so x (sym (count-permutation (same x) (o ++ old_others) old po) ∙ h) in
      let b = one-of-alone same laws news new_alone new_others n sn x (sym (count-permutation (same x) (n ++ new_others) new pn) ∙ k) in
      let alike : same a.0 b.0 ≡ true = sym (laws.congr x a.0 b.0 a.2) ∙ b.2 in
      let none : PassesWithNone same a.0 n = All-contains (λ (z : X). PassesWithNone same z n) o a.0 m.apart a.1 in
      let other : same a.0 b.0 ≡ false = All-contains (λ (z : X). same a.0 z ≡ false) n b.0 none b.1 in
      cc (alike, other);
}

-- ---- exactly

-- what stands once in a whole list is in no two parts of it
pub in-one-part : {X : Type 0} (same : X → X → Bool) → (all front back : List X) (x y z : X) → IsPermutation all (front ++ back) → StandsOnce same x all
    → Contains front y → same x y ≡ true → Contains back z → same x z ≡ true → ⊥
in-one-part same all front back x y z told once in_front y_like in_back z_like =
    let whole : count_by (same x) all ≡ count_by (same x) front + count_by (same x) back
    = sym (count-permutation (same x) all (front ++ back) told) ∙ count-append (same x) front back in
    let f = count-there (same x) front y in_front y_like in
    let b = count-there (same x) back z in_back z_like in
    omega (arith, whole, once, f, b)

-- ---- exchanged

firsts-exchanged : {X : Type 0} (pairs : List (X × X)) → firsts (map exchanged_pair pairs) ≡ seconds pairs
firsts-exchanged [] = refl
firsts-exchanged (p ∷ ps) = ap (λ zs. p.1 ∷ zs) (firsts-exchanged ps)

seconds-exchanged : {X : Type 0} (pairs : List (X × X)) → seconds (map exchanged_pair pairs) ≡ firsts pairs
seconds-exchanged [] = refl
seconds-exchanged (p ∷ ps) = ap (λ zs. p.0 ∷ zs) (seconds-exchanged ps)

-- where the lists are exchanged, the pairs and what is left are exchanged
pub mirrored : {X : Type 0} (same : X → X → Bool) → IsEquivalence same → (olds news : List X) (pairs : List (X × X)) (old new : List X)
    → ArePaired same olds news pairs old new → ArePaired same news olds (map exchanged_pair pairs) new old
mirrored {X} same laws olds news pairs old new m = record {
  olds_told = subst (λ (zs : List X). IsPermutation news (zs ++ new)) (sym (firsts-exchanged pairs)) m.news_told;
  news_told = subst (λ (zs : List X). IsPermutation olds (zs ++ old)) (sym (seconds-exchanged pairs)) m.olds_told;
  alike = All-map (λ (p : X × X). same p.0 p.1 ≡ true) exchanged_pair pairs
      (All-weaker (λ (p : X × X). same p.0 p.1 ≡ true) (λ (p : X × X). same p.1 p.0 ≡ true) (λ p h. laws.symm p.1 p.0 ∙ h) pairs m.alike);
  olds_once = All-map (λ (p : X × X). StandsOnce same p.0 news) exchanged_pair pairs m.news_once;
  news_once = All-map (λ (p : X × X). StandsOnce same p.1 olds) exchanged_pair pairs m.olds_once;
  none_left = λ x h k. m.none_left x k h;
}

-- ---- a later pairing by a coarser test

-- what is like x by a fine test is left alone by a pairing by a coarser test, where some of it is left
fine-kept : {X : Type 0} (fine coarse : X → X → Bool) → IsFiner fine coarse → IsEquivalence fine → IsEquivalence coarse
    → (all front left : List X) → IsPermutation all (front ++ left) → All (λ y. StandsOnce coarse y all) front
    → (x : X) → StandsOnce fine x left → StandsOnce fine x all
fine-kept {X} fine coarse finer fine_laws laws all front left told once x h = by_front (count_by (fine x) front) refl
  where
    whole : count_by (fine x) all ≡ count_by (fine x) front + count_by (fine x) left
    whole = sym (count-permutation (fine x) all (front ++ left) told) ∙ count-append (fine x) front left

    by_front : (n : ℕ) → count_by (fine x) front ≡ n → StandsOnce fine x all
    by_front zero e = whole ∙ omega (arith, e, h)
    by_front (suc n) e =
        let y = counted (fine x) front n e in
        let z = counted (fine x) left 0 h in
        let like : fine y.0 z.0 ≡ true = sym (fine_laws.congr x y.0 z.0 y.2) ∙ z.2 in
        absurd (in-one-part coarse all front left y.0 y.0 z.0 told (All-contains (λ w. StandsOnce coarse w all) front y.0 once y.1)
        y.1 (laws.refl y.0) z.1 (finer y.0 z.0 like))

-- a pairing by a coarser test keeps that no key stands once on both sides
pub still-none : {X : Type 0} (fine coarse : X → X → Bool) → IsFiner fine coarse → IsEquivalence fine → IsEquivalence coarse
    → (olds news : List X) (pairs : List (X × X)) (old new : List X) → ArePaired coarse olds news pairs old new
    → NoneOnBothSides fine olds news → NoneOnBothSides fine old new
still-none {X} fine coarse finer fine_laws laws olds news pairs old new m none x h k =
    none x
    (fine-kept fine coarse finer fine_laws laws olds (firsts pairs) old m.olds_told (All-map (λ (y : X). StandsOnce coarse y olds) (λ (p : X × X). p.0) pairs m.olds_once) x h)
    (fine-kept fine coarse finer fine_laws laws news (seconds pairs) new m.news_told (All-map (λ (y : X). StandsOnce coarse y news) (λ (p : X × X). p.1) pairs m.news_once) x k)
