-- The steps of taking a sorted list apart.
use Rattle.std.proofs.Common.{◌≡◌, ℕ, ◌+◌, ◌-◌, ◌<◌, ◌≤◌, false, List, [], ◌∷◌, ◌++◌, length, take, get_or, refl, subst, sym, arith, IsPermutation, IsSorted, All, ap, ◌∙◌}
use Rattle.std.specs.declared.cmp.Ordering.{Ordering}
use Rattle.std.specs.declared.cmp.Ordering.TheVariants.{Less, Equal, Greater}
use Rattle.std.specs.Ordering.{ordering_reverse, is_lt, is_gt, eq_by_cmp}
use Rattle.std.specs.Cmp.{IsTotalOrder}
use Rattle.std.proofs.lemmas.List.{take_all}
use Rattle.std.proofs.lemmas.List.Elements.{All-push, All-weaker, All-nil, All-get_or, at_read}
use Rattle.std.proofs.lemmas.List.Kept.{IsSortedBy-push}
use Rattle.std.proofs.lemmas.List.Sorted.{IsPermutation-refl}
use Rattle.cargo_lock_diff.specs.Pairing.{AreSplit, StandsOnce}
use Rattle.cargo_lock_diff.proofs.Merging.{one-more, grown-first, grown-second}
use Rattle.cargo_lock_diff.proofs.Alone.{up-to}

-- So many of the list are taken apart; and none of those that stand once is above one to come.
pub record AreApart {X : Type 0} (cmp : X → X → Ordering) (all : List X) (done : ℕ) (alone others : List X) : Type 0 where
  pub within : done ≤ length all
  pub told : IsPermutation (take done all) (alone ++ others)
  pub once : All (λ x. StandsOnce (eq_by_cmp cmp) x all) alone
  pub more : All (λ x. StandsOnce (eq_by_cmp cmp) x all → ⊥) others
  pub ordered : IsSorted cmp alone
  pub below : All (λ x. (j : ℕ) (d : X) → done ≤ j → j < length all → is_gt (cmp x (get_or all j d)) ≡ false) alone

lt-reverse : (r : Ordering) → is_lt (ordering_reverse r) ≡ is_gt r
lt-reverse Less = refl
lt-reverse Equal = refl
lt-reverse Greater = refl

-- one at the end of a sorted list that is below none of it
sorted-push : {X : Type 0} {cmp : X → X → Ordering} → IsTotalOrder cmp → (xs : List X) (x : X) → IsSorted cmp xs → All (λ z. is_gt (cmp z x) ≡ false) xs → IsSorted cmp (xs ++ x ∷ [])
sorted-push {X} {cmp} o xs x up all = IsSortedBy-push (λ a b. is_lt (cmp a b)) xs x up
    (λ d some. let last : X = get_or xs (length xs - 1) d in
    ap is_lt (o.antisymm x last) ∙ lt-reverse (cmp last x) ∙ All-get_or (λ z. is_gt (cmp z x) ≡ false) xs (length xs - 1) d (omega arith) all)

module _ {X : Type 0} {cmp : X → X → Ordering} (o : IsTotalOrder cmp) where
  pub apart-start : (all : List X) → AreApart cmp all 0 [] []
  apart-start all = record {
    within = omega arith;
    told = IsPermutation-refl [];
    once = All-nil (λ x. StandsOnce (eq_by_cmp cmp) x all);
    more = All-nil (λ x. StandsOnce (eq_by_cmp cmp) x all → ⊥);
    ordered = λ k d from within. absurd (omega (arith, within));
    below = All-nil (λ x. (j : ℕ) (d : X) → 0 ≤ j → j < length all → is_gt (cmp x (get_or all j d)) ≡ false);
  }

  still-below : (all : List X) (done : ℕ) (alone : List X)
      → All (λ x. (j : ℕ) (d : X) → done ≤ j → j < length all → is_gt (cmp x (get_or all j d)) ≡ false) alone
      → All (λ x. (j : ℕ) (d : X) → done + 1 ≤ j → j < length all → is_gt (cmp x (get_or all j d)) ≡ false) alone
  still-below all done alone = All-weaker (λ x. (j : ℕ) (d : X) → done ≤ j → j < length all → is_gt (cmp x (get_or all j d)) ≡ false)
      (λ x. (j : ℕ) (d : X) → done + 1 ≤ j → j < length all → is_gt (cmp x (get_or all j d)) ≡ false)
      (λ x h j d le within. h j d (omega arith) within) alone

  pub apart-alone : (all : List X) (done : ℕ) (x : X) (alone others alone' : List X) → IsSorted cmp all → AreApart cmp all done alone others
      → done < length all → x ≡ get_or all done x → StandsOnce (eq_by_cmp cmp) x all → alone' ≡ alone ++ x ∷ [] → AreApart cmp all (done + 1) alone' others
  apart-alone all done x alone others alone' up a lt at once is =
      let low : All (λ z. is_gt (cmp z x) ≡ false) alone = All-weaker (λ z. (j : ℕ) (d : X) → done ≤ j → j < length all → is_gt (cmp z (get_or all j d)) ≡ false) (λ z. is_gt (cmp z x) ≡ false)
      (λ z h. subst (λ (w : X). is_gt (cmp z w) ≡ false) (sym at) (h done x (omega arith) lt)) alone a.below in
      rw is record {
        within = omega arith;
        told = subst (λ (zs : List X). IsPermutation zs ((alone ++ x ∷ []) ++ others)) (sym (one-more all done x lt at)) (grown-first (take done all) alone others x a.told);
        once = All-push (λ z. StandsOnce (eq_by_cmp cmp) z all) alone x a.once once;
        more = a.more;
        ordered = sorted-push o alone x a.ordered low;
        below = All-push (λ z. (j : ℕ) (d : X) → done + 1 ≤ j → j < length all → is_gt (cmp z (get_or all j d)) ≡ false) alone x (still-below all done alone a.below)
            (λ j d le within. up-here j d (omega arith) within);
      }
    where
      up-here : (j : ℕ) (d : X) → done ≤ j → j < length all → is_gt (cmp x (get_or all j d)) ≡ false
      up-here j d le within = subst (λ (z : X). is_gt (cmp z (get_or all j d)) ≡ false) (at_read all (λ z. z ≡ x) done x lt at refl d) (up-to o all up done j d le within)

  pub apart-other : (all : List X) (done : ℕ) (x : X) (alone others others' : List X) → AreApart cmp all done alone others
      → done < length all → x ≡ get_or all done x → (StandsOnce (eq_by_cmp cmp) x all → ⊥) → others' ≡ others ++ x ∷ [] → AreApart cmp all (done + 1) alone others'
  apart-other all done x alone others others' a lt at more is =
      rw is record {
        within = omega arith;
        told = subst (λ (zs : List X). IsPermutation zs (alone ++ (others ++ x ∷ []))) (sym (one-more all done x lt at)) (grown-second (take done all) alone others x a.told);
        once = a.once;
        more = All-push (λ z. StandsOnce (eq_by_cmp cmp) z all → ⊥) others x a.more more;
        ordered = a.ordered;
        below = still-below all done alone a.below;
      }

  pub apart-end : (all : List X) (done : ℕ) (alone others : List X) → AreApart cmp all done alone others → length all ≤ done → AreSplit (eq_by_cmp cmp) all alone others
  apart-end all done alone others a end = record {
    told = subst (λ (zs : List X). IsPermutation zs (alone ++ others)) (take_all done all end) a.told;
    once = a.once;
    more = a.more;
  }
