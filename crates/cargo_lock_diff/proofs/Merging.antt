-- The steps of the merge of two sorted lists.
use Rattle.std.proofs.Common.{◌≡◌, ℕ, ◌+◌, ◌<◌, ◌≤◌, Bool, true, false, List, [], ◌∷◌, ◌++◌, ◌⊎◌, inl, inr, length, take, drop, get_or, refl, subst, sym, append_assoc, arith, IsPermutation, IsSorted, All, ap, ◌∙◌}
use Rattle.std.specs.declared.cmp.Ordering.{Ordering}
use Rattle.std.specs.declared.cmp.Ordering.TheVariants.{Less, Equal, Greater}
use Rattle.std.specs.Ordering.{ordering_reverse, is_eq, is_lt, is_gt, eq_by_cmp}
use Rattle.std.specs.Cmp.{IsTotalOrder}
use Rattle.std.proofs.lemmas.Cmp.{alike_right}
use Rattle.std.proofs.lemmas.List.{map-append, take_more, drop_more, take-append-drop, length-drop, get_or-drop, drop_all}
use Rattle.std.proofs.lemmas.List.Elements.{All-push, All-append, All-cons, All-weaker, All-nil, All-head, All-tail, All-from_get_or}
use Rattle.std.proofs.lemmas.List.Sorted.{IsPermutation-refl, IsPermutation-sym, IsPermutation-middle, IsPermutation-push_more, IsPermutation-append_left, ranks_by, sorted_far}
use Rattle.cargo_lock_diff.specs.Matching.{AreMatched, PassesWithNone, firsts, seconds}

-- So many of each list are done: they are matched, and of those that are left none is like one that
-- is to come.
pub record IsMerged {X : Type 0} (cmp : X → X → Ordering) (olds news : List X) (olds_done news_done : ℕ)
    (pairs : List (X × X)) (old new : List X) : Type 0 where
  pub olds_within : olds_done ≤ length olds
  pub news_within : news_done ≤ length news
  pub matched : AreMatched (eq_by_cmp cmp) (take olds_done olds) (take news_done news) pairs old new
  pub old_apart : All (λ o. PassesWithNone (eq_by_cmp cmp) o (drop news_done news)) old
  pub new_apart : All (λ o. PassesWithNone (eq_by_cmp cmp) o new) (drop olds_done olds)

-- ---- one more of a list

pub one-more : {X : Type 0} (xs : List X) (i : ℕ) (x : X) → i < length xs → x ≡ get_or xs i x → take (i + 1) xs ≡ take i xs ++ x ∷ []
one-more xs i x lt at = take_more xs i x lt ∙ ap (λ z. take i xs ++ z ∷ []) (sym at)

one-less : {X : Type 0} (xs : List X) (i : ℕ) (x : X) → i < length xs → x ≡ get_or xs i x → drop i xs ≡ x ∷ drop (i + 1) xs
one-less xs i x lt at = drop_more xs i x lt ∙ ap (λ z. z ∷ drop (i + 1) xs) (sym at)

-- one more at the end of the second part
pub grown-second : {X : Type 0} (xs front back : List X) (x : X) → IsPermutation xs (front ++ back) → IsPermutation (xs ++ x ∷ []) (front ++ (back ++ x ∷ []))
grown-second xs front back x p = subst (λ zs. IsPermutation (xs ++ x ∷ []) zs) (append_assoc front back (x ∷ [])) (IsPermutation-append_left (x ∷ []) xs (front ++ back) p)

-- one more at the end of the first part
pub grown-first : {X : Type 0} (xs front back : List X) (x : X) → IsPermutation xs (front ++ back) → IsPermutation (xs ++ x ∷ []) ((front ++ x ∷ []) ++ back)
grown-first xs front back x p = IsPermutation-push_more xs (front ++ back) ((front ++ x ∷ []) ++ back) x p
    (subst (λ zs. IsPermutation (x ∷ (front ++ back)) zs) (sym (append_assoc front (x ∷ []) back))
    (IsPermutation-sym (front ++ x ∷ back) (x ∷ (front ++ back)) (IsPermutation-middle front x back)))

-- ---- what is matched

old-alone : {X : Type 0} (test : X → X → Bool) (olds news : List X) (pairs : List (X × X)) (old new : List X) (x : X)
    → AreMatched test olds news pairs old new → PassesWithNone test x new → AreMatched test (olds ++ x ∷ []) news pairs (old ++ x ∷ []) new
old-alone test olds news pairs old new x m none = record {
  olds_told = grown-second olds (firsts pairs) old x m.olds_told;
  news_told = m.news_told;
  paired = m.paired;
  apart = All-push (λ o. PassesWithNone test o new) old x m.apart none;
}

-- nothing passes with nothing
nothing-passes : {X : Type 0} (test : X → X → Bool) (xs : List X) → All (λ x. PassesWithNone test x []) xs
nothing-passes test [] = All-nil (λ x. PassesWithNone test x [])
nothing-passes test (x ∷ xs) = All-cons (λ z. PassesWithNone test z []) x xs (All-nil (λ y. test x y ≡ false)) (nothing-passes test xs)

-- none of the first list passes with two parts
both-parts : {X : Type 0} (test : X → X → Bool) (xs ys zs : List X) → All (λ x. PassesWithNone test x ys) xs → All (λ x. PassesWithNone test x zs) xs
    → All (λ x. PassesWithNone test x (ys ++ zs)) xs
both-parts test [] ys zs all more = All-nil (λ x. PassesWithNone test x (ys ++ zs))
both-parts test (x ∷ xs) ys zs all more = All-cons (λ z. PassesWithNone test z (ys ++ zs)) x xs
    (All-append (λ y. test x y ≡ false) ys zs (All-head (λ z. PassesWithNone test z ys) x xs all) (All-head (λ z. PassesWithNone test z zs) x xs more))
    (both-parts test xs ys zs (All-tail (λ z. PassesWithNone test z ys) x xs all) (All-tail (λ z. PassesWithNone test z zs) x xs more))

-- none of the first list passes with one more
none-more : {X : Type 0} (test : X → X → Bool) (xs ys : List X) (y : X) → All (λ x. PassesWithNone test x ys) xs → All (λ x. test x y ≡ false) xs
    → All (λ x. PassesWithNone test x (ys ++ y ∷ [])) xs
none-more test xs ys y all one = both-parts test xs ys (y ∷ []) all
    (All-weaker (λ x. test x y ≡ false) (λ x. PassesWithNone test x (y ∷ [])) (λ x h. All-cons (λ z. test x z ≡ false) y [] h (All-nil (λ z. test x z ≡ false))) xs one)

new-alone : {X : Type 0} (test : X → X → Bool) (olds news : List X) (pairs : List (X × X)) (old new : List X) (y : X)
    → AreMatched test olds news pairs old new → All (λ o. test o y ≡ false) old → AreMatched test olds (news ++ y ∷ []) pairs old (new ++ y ∷ [])
new-alone test olds news pairs old new y m none = record {
  olds_told = m.olds_told;
  news_told = grown-second news (seconds pairs) new y m.news_told;
  paired = m.paired;
  apart = none-more test old new y m.apart none;
}

both-paired : {X : Type 0} (test : X → X → Bool) (olds news : List X) (pairs : List (X × X)) (old new : List X) (x y : X)
    → AreMatched test olds news pairs old new → test x y ≡ true → AreMatched test (olds ++ x ∷ []) (news ++ y ∷ []) (pairs ++ (x, y) ∷ []) old new
both-paired {X} test olds news pairs old new x y m hit = record {
  olds_told = subst (λ zs. IsPermutation (olds ++ x ∷ []) (zs ++ old)) (sym (map-append (λ (p : X × X). p.0) pairs ((x, y) ∷ []))) (grown-first olds (firsts pairs) old x m.olds_told);
  news_told = subst (λ zs. IsPermutation (news ++ y ∷ []) (zs ++ new)) (sym (map-append (λ (p : X × X). p.1) pairs ((x, y) ∷ []))) (grown-first news (seconds pairs) new y m.news_told);
  paired = All-push (λ p. test p.0 p.1 ≡ true) pairs (x, y) m.paired hit;
  apart = m.apart;
}

-- ---- what the order says

pub not-greater : (r s : Ordering) → r ≡ ordering_reverse s → is_lt r ≡ false → is_gt s ≡ false
not-greater r Less e h = refl
not-greater r Equal e h = refl
not-greater r Greater e h = sym (ap is_lt e) ∙ h

module _ {X : Type 0} {cmp : X → X → Ordering} (o : IsTotalOrder cmp) where
  -- x is below y, and y not above z
  pub below-far : (x y z : X) (r : Ordering) → cmp y z ≡ r → cmp x y ≡ Less → is_gt r ≡ false → eq_by_cmp cmp x z ≡ false
  below-far x y z Less e h g = ap is_eq (o.trans x y z h e)
  below-far x y z Equal e h g = ap is_eq (sym (alike_right o y z x e) ∙ h)
  below-far x y z Greater e h g = absurd cc

  -- y is below x, and x not above z
  pub above-far : (x y z : X) (r : Ordering) → cmp x z ≡ r → cmp y x ≡ Less → is_gt r ≡ false → eq_by_cmp cmp z y ≡ false
  above-far x y z Less e h g = ap is_eq (o.antisymm z y ∙ ap ordering_reverse (o.trans y x z h e))
  above-far x y z Equal e h g = ap is_eq (o.antisymm z y ∙ ap ordering_reverse (sym (alike_right o x z y e) ∙ h))
  above-far x y z Greater e h g = absurd cc

  -- no element from a place on is below the one there
  pub none-below : (xs : List X) (i : ℕ) (x : X) → IsSorted cmp xs → i < length xs → x ≡ get_or xs i x → All (λ z. is_gt (cmp x z) ≡ false) (drop i xs)
  none-below xs i x up lt at = All-from_get_or (λ z. is_gt (cmp x z) ≡ false) (drop i xs) x
      (λ k within.
      let far = sorted_far (λ a b. is_lt (cmp a b)) (ranks_by o (λ a. a)) xs up i (i + k) x (omega arith) (omega (arith, length-drop i xs)) in
      let later : is_lt (cmp (get_or (drop i xs) k x) x) ≡ false = subst (λ (a : X). is_lt (cmp a x) ≡ false) (sym (get_or-drop i xs k x)) (subst (λ (b : X). is_lt (cmp (get_or xs (i + k) x) b) ≡ false) (sym at) far) in
      not-greater _ _ (o.antisymm (get_or (drop i xs) k x) x) later)

  -- ---- the steps

  pub merged-start : (olds news : List X) → IsMerged cmp olds news 0 0 [] [] []
  merged-start olds news = record {
    olds_within = omega arith;
    news_within = omega arith;
    matched = record {
      olds_told = IsPermutation-refl [];
      news_told = IsPermutation-refl [];
      paired = All-nil (λ p. eq_by_cmp cmp p.0 p.1 ≡ true);
      apart = All-nil (λ x. PassesWithNone (eq_by_cmp cmp) x []);
    };
    old_apart = All-nil (λ x. PassesWithNone (eq_by_cmp cmp) x (drop 0 news));
    new_apart = nothing-passes (eq_by_cmp cmp) (drop 0 olds);
  }

  -- the next old one is below the next new one, and so below all new ones that are to come
  pub merged-less : (olds news : List X) (i j : ℕ) (x y : X) (pairs : List (X × X)) (old new : List X) (old' : List X)
      → IsMerged cmp olds news i j pairs old new → IsSorted cmp news → i < length olds → j < length news
      → x ≡ get_or olds i x → y ≡ get_or news j y → cmp x y ≡ Less → old' ≡ old ++ x ∷ []
      → IsMerged cmp olds news (i + 1) j pairs old' new
  merged-less olds news i j x y pairs old new old' m up in_olds in_news x_at y_at below is =
      let test : X → X → Bool = eq_by_cmp cmp in
      let left = subst (λ (zs : List X). All (λ (o : X). PassesWithNone test o new) zs) (one-less olds i x in_olds x_at) m.new_apart in
      let none = All-head (λ (o : X). PassesWithNone test o new) x (drop (i + 1) olds) left in
      let far : PassesWithNone test x (drop j news) = All-weaker (λ (z : X). is_gt (cmp y z) ≡ false) (λ (z : X). test x z ≡ false)
      (λ z up'. below-far x y z (cmp y z) refl below up') (drop j news) (none-below news j y up in_news y_at) in
      record {
        olds_within = omega arith;
        news_within = m.news_within;
        matched = rw (one-more olds i x in_olds x_at, is) (old-alone test (take i olds) (take j news) pairs old new x m.matched none);
        old_apart = rw is (All-push (λ (o : X). PassesWithNone test o (drop j news)) old x m.old_apart far);
        new_apart = All-tail (λ (o : X). PassesWithNone test o new) x (drop (i + 1) olds) left;
      }

  -- the next new one is below the next old one, and so below all old ones that are to come
  pub merged-greater : (olds news : List X) (i j : ℕ) (x y : X) (pairs : List (X × X)) (old new : List X) (new' : List X)
      → IsMerged cmp olds news i j pairs old new → IsSorted cmp olds → i < length olds → j < length news
      → x ≡ get_or olds i x → y ≡ get_or news j y → cmp x y ≡ Greater → new' ≡ new ++ y ∷ []
      → IsMerged cmp olds news i (j + 1) pairs old new'
  merged-greater olds news i j x y pairs old new new' m up in_olds in_news x_at y_at above is =
      let test : X → X → Bool = eq_by_cmp cmp in
      let below : cmp y x ≡ Less = o.antisymm y x ∙ ap ordering_reverse above in
      let next = one-less news j y in_news y_at in
      let head : All (λ (z : X). test z y ≡ false) old = All-weaker (λ (z : X). PassesWithNone test z (drop j news)) (λ (z : X). test z y ≡ false)
      (λ z none. All-head (λ (w : X). test z w ≡ false) y (drop (j + 1) news) (subst (λ (zs : List X). PassesWithNone test z zs) next none)) old m.old_apart in
      let tail : All (λ (z : X). PassesWithNone test z (drop (j + 1) news)) old = All-weaker (λ (z : X). PassesWithNone test z (drop j news)) (λ (z : X). PassesWithNone test z (drop (j + 1) news))
      (λ z none. All-tail (λ (w : X). test z w ≡ false) y (drop (j + 1) news) (subst (λ (zs : List X). PassesWithNone test z zs) next none)) old m.old_apart in
      let far : All (λ (z : X). test z y ≡ false) (drop i olds) = All-weaker (λ (z : X). is_gt (cmp x z) ≡ false) (λ (z : X). test z y ≡ false)
      (λ z up'. above-far x y z (cmp x z) refl below up') (drop i olds) (none-below olds i x up in_olds x_at) in
      record {
        olds_within = m.olds_within;
        news_within = omega arith;
        matched = rw (one-more news j y in_news y_at, is) (new-alone test (take i olds) (take j news) pairs old new y m.matched head);
        old_apart = tail;
        new_apart = rw is (none-more test (drop i olds) new y m.new_apart far);
      }

  -- the next ones are alike
  pub merged-equal : (olds news : List X) (i j : ℕ) (x y : X) (pairs : List (X × X)) (old new : List X) (pairs' : List (X × X))
      → IsMerged cmp olds news i j pairs old new → i < length olds → j < length news
      → x ≡ get_or olds i x → y ≡ get_or news j y → cmp x y ≡ Equal → pairs' ≡ pairs ++ (x, y) ∷ []
      → IsMerged cmp olds news (i + 1) (j + 1) pairs' old new
  merged-equal olds news i j x y pairs old new pairs' m in_olds in_news x_at y_at level is =
      let test : X → X → Bool = eq_by_cmp cmp in
      let left = subst (λ (zs : List X). All (λ (o : X). PassesWithNone test o new) zs) (one-less olds i x in_olds x_at) m.new_apart in
      let next = one-less news j y in_news y_at in
      record {
        olds_within = omega arith;
        news_within = omega arith;
        matched = rw (one-more olds i x in_olds x_at, one-more news j y in_news y_at, is) (both-paired test (take i olds) (take j news) pairs old new x y m.matched (ap is_eq level));
        old_apart = All-weaker (λ (z : X). PassesWithNone test z (drop j news)) (λ (z : X). PassesWithNone test z (drop (j + 1) news))
            (λ z none. All-tail (λ (w : X). test z w ≡ false) y (drop (j + 1) news) (subst (λ (zs : List X). PassesWithNone test z zs) next none)) old m.old_apart;
        new_apart = All-tail (λ (o : X). PassesWithNone test o new) x (drop (i + 1) olds) left;
      }

-- what is left where a list is done
left-apart : {X : Type 0} (test : X → X → Bool) (olds news : List X) (i j : ℕ) → (length olds ≤ i) ⊎ (length news ≤ j)
    → All (λ o. PassesWithNone test o (drop j news)) (drop i olds)
left-apart {X} test olds news i j (inl done) = subst (λ (zs : List X). All (λ o. PassesWithNone test o (drop j news)) zs) (sym (drop_all i olds done)) (All-nil (λ o. PassesWithNone test o (drop j news)))
left-apart {X} test olds news i j (inr done) = subst (λ (zs : List X). All (λ o. PassesWithNone test o zs) (drop i olds)) (sym (drop_all j news done)) (nothing-passes test (drop i olds))

-- what is left goes behind
rest-told : {X : Type 0} (xs front back : List X) (i : ℕ) → IsPermutation (take i xs) (front ++ back) → IsPermutation xs (front ++ (back ++ drop i xs))
rest-told {X} xs front back i p =
    subst (λ (zs : List X). IsPermutation zs (front ++ (back ++ drop i xs))) (take-append-drop i xs)
    (subst (λ (zs : List X). IsPermutation (take i xs ++ drop i xs) zs) (append_assoc front back (drop i xs))
    (IsPermutation-append_left (drop i xs) (take i xs) (front ++ back) p))

pub merged-end : {X : Type 0} (cmp : X → X → Ordering) (olds news : List X) (i j : ℕ) (pairs : List (X × X)) (old new old' new' : List X)
    → IsMerged cmp olds news i j pairs old new → (length olds ≤ i) ⊎ (length news ≤ j)
    → old' ≡ old ++ drop i olds → new' ≡ new ++ drop j news
    → AreMatched (eq_by_cmp cmp) olds news pairs old' new'
merged-end {X} cmp olds news i j pairs old new old' new' m done e f =
    let test : X → X → Bool = eq_by_cmp cmp in
    rw (e, f) record {
      olds_told = rest-told olds (firsts pairs) old i m.matched.olds_told;
      news_told = rest-told news (seconds pairs) new j m.matched.news_told;
      paired = m.matched.paired;
      apart = All-append (λ (o : X). PassesWithNone test o (new ++ drop j news)) old (drop i olds)
          (both-parts test old new (drop j news) m.matched.apart m.old_apart)
          (both-parts test (drop i olds) new (drop j news) m.new_apart (left-apart test olds news i j done));
    }
