-- Matched lists seen through a function, and in another order.
use Rattle.std.proofs.Common.{◌≡◌, Bool, true, false, List, [], ◌∷◌, ◌++◌, map, refl, ap, subst, ◌∙◌, IsPermutation}
use Rattle.std.proofs.lemmas.List.{map-append}
use Rattle.std.proofs.lemmas.List.Elements.{All-map, All-weaker}
use Rattle.std.proofs.lemmas.List.Sorted.{All-permutation, IsPermutation-append, IsPermutation-map, IsPermutation-trans}
use Rattle.cargo_lock_diff.specs.Matching.{AreMatched, PassesWithNone, firsts, seconds}

-- pairs of what a function gives
abbrev pub both : {X Y : Type 0} → (X → Y) → X × X → Y × Y
both f p = (f p.0, f p.1)

pub firsts-both : {X Y : Type 0} (f : X → Y) (pairs : List (X × X)) → map f (firsts pairs) ≡ firsts (map (both f) pairs)
firsts-both f [] = refl
firsts-both f (p ∷ ps) = ap (λ zs. f p.0 ∷ zs) (firsts-both f ps)

pub seconds-both : {X Y : Type 0} (f : X → Y) (pairs : List (X × X)) → map f (seconds pairs) ≡ seconds (map (both f) pairs)
seconds-both f [] = refl
seconds-both f (p ∷ ps) = ap (λ zs. f p.1 ∷ zs) (seconds-both f ps)

pub matched-map : {X Y : Type 0} (f : X → Y) (test : Y → Y → Bool) (olds news : List X) (pairs : List (X × X)) (old new : List X)
    → AreMatched (λ a b. test (f a) (f b)) olds news pairs old new
    → AreMatched test (map f olds) (map f news) (map (both f) pairs) (map f old) (map f new)
matched-map {X} {Y} f test olds news pairs old new m = record {
  olds_told = subst (λ (zs : List Y). IsPermutation (map f olds) zs) (map-append f (firsts pairs) old ∙ ap (λ (zs : List Y). zs ++ map f old) (firsts-both f pairs))
      (IsPermutation-map f olds (firsts pairs ++ old) m.olds_told);
  news_told = subst (λ (zs : List Y). IsPermutation (map f news) zs) (map-append f (seconds pairs) new ∙ ap (λ (zs : List Y). zs ++ map f new) (seconds-both f pairs))
      (IsPermutation-map f news (seconds pairs ++ new) m.news_told);
  paired = All-map (λ (p : Y × Y). test p.0 p.1 ≡ true) (both f) pairs m.paired;
  apart = All-map (λ (o : Y). PassesWithNone test o (map f new)) f old
      (All-weaker (λ (o : X). PassesWithNone (λ a b. test (f a) (f b)) o new) (λ (o : X). PassesWithNone test (f o) (map f new))
      (λ o none. All-map (λ (n : Y). test (f o) n ≡ false) f new none) old m.apart);
}

-- the order of a matching's lists does not count
pub matched-permuted : {X : Type 0} (test : X → X → Bool) (olds news : List X) (pairs : List (X × X)) (old new : List X)
    (olds' news' : List X) (pairs' : List (X × X)) (old' new' : List X)
    → AreMatched test olds news pairs old new
    → IsPermutation olds' olds → IsPermutation news' news → IsPermutation pairs pairs' → IsPermutation old old' → IsPermutation new new'
    → AreMatched test olds' news' pairs' old' new'
matched-permuted {X} test olds news pairs old new olds' news' pairs' old' new' m po pn pp p q = record {
  olds_told = IsPermutation-trans olds' olds (firsts pairs' ++ old') po
      (IsPermutation-trans olds (firsts pairs ++ old) (firsts pairs' ++ old') m.olds_told
      (IsPermutation-append (firsts pairs) (firsts pairs') old old' (IsPermutation-map (λ (r : X × X). r.0) pairs pairs' pp) p));
  news_told = IsPermutation-trans news' news (seconds pairs' ++ new') pn
      (IsPermutation-trans news (seconds pairs ++ new) (seconds pairs' ++ new') m.news_told
      (IsPermutation-append (seconds pairs) (seconds pairs') new new' (IsPermutation-map (λ (r : X × X). r.1) pairs pairs' pp) q));
  paired = All-permutation (λ (r : X × X). test r.0 r.1 ≡ true) pairs pairs' pp m.paired;
  apart = All-weaker (λ (o : X). PassesWithNone test o new) (λ (o : X). PassesWithNone test o new')
      (λ o none. All-permutation (λ (n : X). test o n ≡ false) new new' q none) old'
      (All-permutation (λ (o : X). PassesWithNone test o new) old old' p m.apart);
}
