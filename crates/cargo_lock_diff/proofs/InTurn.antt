-- Pairings seen through a function, in another order, and in turn.
use Rattle.std.proofs.Common.{◌≡◌, ◌+◌, Bool, true, cond, List, [], ◌∷◌, ◌++◌, get_or, map, count_by, refl, sym, ap, ◌∙◌, subst, append_assoc, IsPermutation, All}
use Rattle.std.specs.List.{flat_map}
use Rattle.std.specs.Cmp.{IsEquivalence}
use Rattle.std.proofs.lemmas.List.{map-append}
use Rattle.std.proofs.lemmas.List.Elements.{All-head, All-map, All-tail, All-weaker}
use Rattle.std.proofs.lemmas.List.Sorted.{All-permutation, IsPermutation-append, IsPermutation-append_right, IsPermutation-map, IsPermutation-refl, IsPermutation-trans}
use Rattle.cargo_lock_diff.specs.Matching.{firsts, seconds}
use Rattle.cargo_lock_diff.specs.Pairing.{ArePaired, ArePairedInTurn, IsFiner, NoneOnBothSides, StandsOnce}
use Rattle.cargo_lock_diff.proofs.Counts.{count-cons, count-permutation, counted}
use Rattle.cargo_lock_diff.proofs.Matched.{both, firsts-both, seconds-both}
use Rattle.cargo_lock_diff.proofs.Once.{count-congr, still-none}

-- ---- through a function

count-map : {X Y : Type 0} (q : Y → Bool) (f : X → Y) (xs : List X) → count_by q (map f xs) ≡ count_by (λ x. q (f x)) xs
count-map q f [] = refl
count-map q f (x ∷ xs) = count-cons q (f x) (map f xs) ∙ ap (λ n. cond (q (f x)) 1 0 + n) (count-map q f xs) ∙ sym (count-cons (λ z. q (f z)) x xs)

pub paired-map : {X Y : Type 0} (f : X → Y) (same : Y → Y → Bool) → IsEquivalence same → (olds news : List X) (pairs : List (X × X)) (old new : List X)
    → ArePaired (λ a b. same (f a) (f b)) olds news pairs old new
    → ArePaired same (map f olds) (map f news) (map (both f) pairs) (map f old) (map f new)
paired-map {X} {Y} f same laws olds news pairs old new m = record {
  olds_told = subst (λ (zs : List Y). IsPermutation (map f olds) zs) (map-append f (firsts pairs) old ∙ ap (λ (zs : List Y). zs ++ map f old) (firsts-both f pairs))
      (IsPermutation-map f olds (firsts pairs ++ old) m.olds_told);
  news_told = subst (λ (zs : List Y). IsPermutation (map f news) zs) (map-append f (seconds pairs) new ∙ ap (λ (zs : List Y). zs ++ map f new) (seconds-both f pairs))
      (IsPermutation-map f news (seconds pairs ++ new) m.news_told);
  alike = All-map (λ (p : Y × Y). same p.0 p.1 ≡ true) (both f) pairs m.alike;
  olds_once = All-map (λ (p : Y × Y). StandsOnce same p.0 (map f olds)) (both f) pairs (λ k d lt. count-map (same (f (get_or pairs k d).0)) f olds ∙ m.olds_once k d lt);
  news_once = All-map (λ (p : Y × Y). StandsOnce same p.1 (map f news)) (both f) pairs (λ k d lt. count-map (same (f (get_or pairs k d).1)) f news ∙ m.news_once k d lt);
  none_left = λ y h k.
      let a = counted (λ x. same y (f x)) old 0 (sym (count-map (same y) f old) ∙ h) in
      m.none_left a.0 (sym (count-map (same (f a.0)) f old) ∙ sym (count-congr same laws y (f a.0) a.2 (map f old)) ∙ h)
      (sym (count-map (same (f a.0)) f new) ∙ sym (count-congr same laws y (f a.0) a.2 (map f new)) ∙ k);
}

-- ---- in another order

pub paired-permuted : {X : Type 0} (same : X → X → Bool) (olds news : List X) (pairs : List (X × X)) (old new : List X)
    (olds' news' : List X) (pairs' : List (X × X)) (old' new' : List X)
    → ArePaired same olds news pairs old new
    → IsPermutation olds' olds → IsPermutation news' news → IsPermutation pairs pairs' → IsPermutation old old' → IsPermutation new new'
    → ArePaired same olds' news' pairs' old' new'
paired-permuted {X} same olds news pairs old new olds' news' pairs' old' new' m po pn pp p q = record {
  olds_told = IsPermutation-trans olds' olds (firsts pairs' ++ old') po
      (IsPermutation-trans olds (firsts pairs ++ old) (firsts pairs' ++ old') m.olds_told
      (IsPermutation-append (firsts pairs) (firsts pairs') old old' (IsPermutation-map (λ (r : X × X). r.0) pairs pairs' pp) p));
  news_told = IsPermutation-trans news' news (seconds pairs' ++ new') pn
      (IsPermutation-trans news (seconds pairs ++ new) (seconds pairs' ++ new') m.news_told
      (IsPermutation-append (seconds pairs) (seconds pairs') new new' (IsPermutation-map (λ (r : X × X). r.1) pairs pairs' pp) q));
  alike = All-permutation (λ (r : X × X). same r.0 r.1 ≡ true) pairs pairs' pp m.alike;
  olds_once = All-weaker (λ (r : X × X). StandsOnce same r.0 olds) (λ (r : X × X). StandsOnce same r.0 olds')
      (λ r h. sym (count-permutation (same r.0) olds' olds po) ∙ h) pairs' (All-permutation (λ (r : X × X). StandsOnce same r.0 olds) pairs pairs' pp m.olds_once);
  news_once = All-weaker (λ (r : X × X). StandsOnce same r.1 news) (λ (r : X × X). StandsOnce same r.1 news')
      (λ r h. sym (count-permutation (same r.1) news' news pn) ∙ h) pairs' (All-permutation (λ (r : X × X). StandsOnce same r.1 news) pairs pairs' pp m.news_once);
  none_left = λ x h k. m.none_left x (sym (count-permutation (same x) old old' p) ∙ h) (sym (count-permutation (same x) new new' q) ∙ k);
}

-- ---- in turn

-- one more pairing
pub in-turn-push : {X : Type 0} (tests : List (X → X → Bool)) (same : X → X → Bool) (olds news : List X) (passes : List (List (X × X))) (pairs : List (X × X)) (o n old new : List X)
    → ArePairedInTurn tests olds news passes o n → ArePaired same o n pairs old new → ArePairedInTurn (tests ++ same ∷ []) olds news (passes ++ pairs ∷ []) old new
in-turn-push {X} [] same olds news [] pairs o n old new h m =
    (old, new, subst (λ (zs : List X). ArePaired same zs news pairs old new) (sym h.0) (subst (λ (zs : List X). ArePaired same o zs pairs old new) (sym h.1) m), (refl, refl))
in-turn-push [] same olds news (p ∷ ps) pairs o n old new h m = absurd h
in-turn-push (t ∷ ts) same olds news [] pairs o n old new h m = absurd h
in-turn-push (t ∷ ts) same olds news (p ∷ ps) pairs o n old new h m = (h.0, h.1, h.2, in-turn-push ts same h.0 h.1 ps pairs o n old new h.3 m)

-- the pairs of all passes
abbrev pub all_pairs : {X : Type 0} → List (List (X × X)) → List (X × X)
all_pairs = flat_map (λ pairs. pairs)

-- each is in a pair of some pass or left, as often as it was given
pub in-turn-olds : {X : Type 0} (tests : List (X → X → Bool)) (olds news : List X) (passes : List (List (X × X))) (old new : List X)
    → ArePairedInTurn tests olds news passes old new → IsPermutation olds (firsts (all_pairs passes) ++ old)
in-turn-olds {X} [] olds news [] old new h = subst (λ (zs : List X). IsPermutation olds zs) h.0 (IsPermutation-refl olds)
in-turn-olds [] olds news (p ∷ ps) old new h = absurd h
in-turn-olds (t ∷ ts) olds news [] old new h = absurd h
in-turn-olds {X} (t ∷ ts) olds news (p ∷ ps) old new h =
    let rest : IsPermutation h.0 (firsts (all_pairs ps) ++ old) = in-turn-olds ts h.0 h.1 ps old new h.3 in
    subst (λ (zs : List X). IsPermutation olds zs)
    (sym (append_assoc (firsts p) (firsts (all_pairs ps)) old) ∙ ap (λ (zs : List X). zs ++ old) (sym (map-append (λ (q : X × X). q.0) p (all_pairs ps))))
    (IsPermutation-trans olds (firsts p ++ h.0) (firsts p ++ (firsts (all_pairs ps) ++ old)) h.2.olds_told (IsPermutation-append_right (firsts p) h.0 (firsts (all_pairs ps) ++ old) rest))

pub in-turn-news : {X : Type 0} (tests : List (X → X → Bool)) (olds news : List X) (passes : List (List (X × X))) (old new : List X)
    → ArePairedInTurn tests olds news passes old new → IsPermutation news (seconds (all_pairs passes) ++ new)
in-turn-news {X} [] olds news [] old new h = subst (λ (zs : List X). IsPermutation news zs) h.1 (IsPermutation-refl news)
in-turn-news [] olds news (p ∷ ps) old new h = absurd h
in-turn-news (t ∷ ts) olds news [] old new h = absurd h
in-turn-news {X} (t ∷ ts) olds news (p ∷ ps) old new h =
    let rest : IsPermutation h.1 (seconds (all_pairs ps) ++ new) = in-turn-news ts h.0 h.1 ps old new h.3 in
    subst (λ (zs : List X). IsPermutation news zs)
    (sym (append_assoc (seconds p) (seconds (all_pairs ps)) new) ∙ ap (λ (zs : List X). zs ++ new) (sym (map-append (λ (q : X × X). q.1) p (all_pairs ps))))
    (IsPermutation-trans news (seconds p ++ h.1) (seconds p ++ (seconds (all_pairs ps) ++ new)) h.2.news_told (IsPermutation-append_right (seconds p) h.1 (seconds (all_pairs ps) ++ new) rest))

-- what no key of a test does on both sides it does not after passes by coarser tests
pub kept-by-coarser : {X : Type 0} (fine : X → X → Bool) → IsEquivalence fine → (tests : List (X → X → Bool)) → All IsEquivalence tests → All (IsFiner fine) tests
    → (olds news : List X) (passes : List (List (X × X))) (old new : List X) → ArePairedInTurn tests olds news passes old new
    → NoneOnBothSides fine olds news → NoneOnBothSides fine old new
kept-by-coarser {X} fine laws [] all finer olds news [] old new h none =
    subst (λ (zs : List X). NoneOnBothSides fine zs new) h.0 (subst (λ (zs : List X). NoneOnBothSides fine olds zs) h.1 none)
kept-by-coarser fine laws [] all finer olds news (p ∷ ps) old new h none = absurd h
kept-by-coarser fine laws (t ∷ ts) all finer olds news [] old new h none = absurd h
kept-by-coarser {X} fine laws (t ∷ ts) all finer olds news (p ∷ ps) old new h none =
    kept-by-coarser fine laws ts (All-tail IsEquivalence t ts all) (All-tail (IsFiner fine) t ts finer) h.0 h.1 ps old new h.3
    (still-none fine t (All-head (IsFiner fine) t ts finer) laws (All-head IsEquivalence t ts all) olds news p h.0 h.1 h.2 none)

-- after all passes, no key of a pass stands once on both sides, where the passes after it are by coarser tests
pub none-after-all : {X : Type 0} (before : List (X → X → Bool)) (same : X → X → Bool) (later : List (X → X → Bool)) → IsEquivalence same → All IsEquivalence later → All (IsFiner same) later
    → (olds news : List X) (passes : List (List (X × X))) (old new : List X) → ArePairedInTurn (before ++ same ∷ later) olds news passes old new
    → NoneOnBothSides same old new
none-after-all [] same later laws all finer olds news [] old new h = absurd h
none-after-all [] same later laws all finer olds news (p ∷ ps) old new h = kept-by-coarser same laws later all finer h.0 h.1 ps old new h.3 h.2.none_left
none-after-all (t ∷ ts) same later laws all finer olds news [] old new h = absurd h
none-after-all (t ∷ ts) same later laws all finer olds news (p ∷ ps) old new h = none-after-all ts same later laws all finer h.0 h.1 ps old new h.3
