-- Pairs hang on no order of the lists: they are counted by what their packages have in common.
use Rattle.std.proofs.Common.{◌≡◌, ℕ, ◌+◌, ◌-◌, ◌≤◌, zero, suc, Bool, true, false, cond, List, [], ◌∷◌, ◌++◌, map, count_by, refl, ap, sym, subst, ◌∙◌, arith, IsPermutation, All}
use Rattle.std.specs.Prelude.{◌&&◌}
use Rattle.std.specs.Cmp.{IsEquivalence, eq_by_cmp_equiv}
use Rattle.std.specs.List.{Contains, remove}
use Rattle.std.proofs.lemmas.Bool.{and_parts}
use Rattle.std.proofs.lemmas.List.Elements.{All-cons, All-head, All-nil, All-tail}
use Rattle.std.proofs.lemmas.List.Sorted.{IsPermutation-remove}
use Rattle.cargo_lock_parts.specs.Identity.{PackageData}
use Rattle.cargo_lock_diff.specs.declared.likeness.Likeness.{Likeness}
use Rattle.cargo_lock_diff.specs.declared.likeness.Likeness.TheVariants.{Name, Origin, Version, Line, Place, Whole}
use Rattle.cargo_lock_diff.specs.Difference.{OrderDoesNotCount, count_of_pair, turns}
use Rattle.cargo_lock_diff.specs.Likeness.{is_alike}
use Rattle.cargo_lock_diff.specs.Matching.{firsts, seconds}
use Rattle.cargo_lock_diff.specs.Pairing.{ArePaired, ArePairedInTurn, IsFiner, StandsOnce}
use Rattle.cargo_lock_diff.specs.PairingLaws.{AreOnlyAlike}
use Rattle.cargo_lock_diff.proofs.Counts.{count-append, count-cons, count-permutation, counted, left-counts}
use Rattle.cargo_lock_diff.proofs.Exact.{in-pair, only-alike}
use Rattle.cargo_lock_diff.proofs.Finer.{place-line, place-name, place-origins, place-version, whole-place}
use Rattle.cargo_lock_diff.proofs.InTurn.{all_pairs}
use Rattle.cargo_lock_diff.proofs.Keys.{same-counts, whole_laws}
use Rattle.cargo_lock_diff.proofs.Once.{count-congr, count-there}
use Rattle.cargo_lock_diff.proofs.Orders.{likeness_total}

-- ---- counts

pub count-map : {X Y : Type 0} (q : Y → Bool) (f : X → Y) (xs : List X) → count_by q (map f xs) ≡ count_by (λ x. q (f x)) xs
count-map q f [] = refl
count-map q f (x ∷ xs) = count-cons q (f x) (map f xs) ∙ ap (λ n. cond (q (f x)) 1 0 + n) (count-map q f xs) ∙ sym (count-cons (λ z. q (f z)) x xs)

weight : (a b : Bool) → (a ≡ true → b ≡ true) → cond a 1 0 ≤ cond b 1 0
weight true b h = omega (arith, ap {B = ℕ} (λ (c : Bool). cond c 1 0) (h refl))
weight false b h = omega arith

-- what passes the one test passes the other
count-weaker : {X : Type 0} (p q : X → Bool) → ((x : X) → p x ≡ true → q x ≡ true) → (xs : List X) → count_by p xs ≤ count_by q xs
count-weaker p q h [] = omega arith
count-weaker p q h (x ∷ xs) =
    let a = count-cons p x xs in
    let b = count-cons q x xs in
    let c = weight (p x) (q x) (h x) in
    let d = count-weaker p q h xs in
    omega (arith, a, b, c, d)

-- each stands as often in both lists
abbrev pub SameCounts : {X : Type 0} → (X → X → Bool) → List X → List X → Type 0
SameCounts {X} same xs ys = (x : X) → count_by (same x) xs ≡ count_by (same x) ys

same-at : {X : Type 0} (W : X → X → Bool) → IsEquivalence W → (p x y : X) → W x y ≡ true → W p x ≡ W p y
same-at W w p x y h = w.symm p x ∙ w.congr x y p h ∙ sym (w.symm p y)

-- what is there has one like it in the other list
other-one : {X : Type 0} (W : X → X → Bool) → IsEquivalence W → (xs ys : List X) → SameCounts W xs ys → (x : X) → Contains xs x
    → (y : X) × Contains ys y × (W x y ≡ true)
other-one {X} W w xs ys same x there = go (count_by (W x) ys) refl
  where
    go : (n : ℕ) → count_by (W x) ys ≡ n → (y : X) × Contains ys y × (W x y ≡ true)
    go zero e =
        let a = same x in
        let b = count-there (W x) xs x there (w.refl x) in
        absurd (omega (arith, e, a, b))
    go (suc n) e = counted (W x) ys n e

-- lists with the same counts by a test have the same count of what does not distinguish the alike
pub count-same : {X : Type 0} (W : X → X → Bool) → IsEquivalence W → (q : X → Bool) → ((x y : X) → W x y ≡ true → q x ≡ q y)
    → (xs ys : List X) → SameCounts W xs ys → count_by q xs ≡ count_by q ys
count-same W w q respects [] [] same = refl
count-same W w q respects [] (y ∷ ys) same =
    let e = same y in
    let f = count-there (W y) (y ∷ ys) y (0, omega arith, refl) (w.refl y) in
    absurd (omega (arith, e, f))
count-same {X} W w q respects (x ∷ xs) ys same =
    let o = other-one W w (x ∷ xs) ys same x (0, omega arith, refl) in
    let y = o.0 in
    let zs : List X = remove ys o.1.0 in
    let perm : IsPermutation ys (y ∷ zs) = IsPermutation-remove ys o.1.0 y o.1.1 (sym o.1.2) in
    let rest : SameCounts W xs zs = λ p.
    let b = same p in
    let c = count-cons (W p) x xs in
    let d = count-permutation (W p) ys (y ∷ zs) perm in
    let e = count-cons (W p) y zs in
    let f = ap {B = ℕ} (λ (t : Bool). cond t 1 0) (same-at W w p x y o.2) in
    omega (arith, b, c, d, e, f) in
    let b = count-same W w q respects xs zs rest in
    let c = count-cons q x xs in
    let d = count-permutation q ys (y ∷ zs) perm in
    let e = count-cons q y zs in
    let f = ap {B = ℕ} (λ (t : Bool). cond t 1 0) (respects x y o.2) in
    omega (arith, b, c, d, e, f)

-- lists with the same counts by a test have the same counts by a coarser one
coarse-counts : {X : Type 0} (W S : X → X → Bool) → IsEquivalence W → IsEquivalence S → IsFiner W S → (xs ys : List X) → SameCounts W xs ys → SameCounts S xs ys
coarse-counts W S w s finer xs ys same a = count-same W w (S a) (λ x y h. same-at S s a x y (finer x y h)) xs ys same

-- ---- one pairing

module _ {X : Type 0} (W S : X → X → Bool) (w : IsEquivalence W) (s : IsEquivalence S) (finer : IsFiner W S) where
  -- a pair has one like it among the pairs of the other lists
  other-pair : (O N O' N' : List X) (P P' : List (X × X)) (o n o' n' : List X) → ArePaired S O N P o n → ArePaired S O' N' P' o' n'
      → SameCounts W O O' → SameCounts W N N' → (p : X × X) → Contains P p
      → (q : X × X) × Contains P' q × (W p.0 q.0 ≡ true) × (W p.1 q.1 ≡ true)
  other-pair O N O' N' P P' o n o' n' m m' olds news p there =
      let h = only-alike S O N P o n m p.0 p.1 there in
      let a = other-one W w O O' olds p.0 h.old_there in
      let b = other-one W w N N' news p.1 h.new_there in
      let sa : S p.0 a.0 ≡ true = finer p.0 a.0 a.2 in
      let sb : S p.1 b.0 ≡ true = finer p.1 b.0 b.2 in
      let alike : S a.0 b.0 ≡ true = sym (s.congr p.0 a.0 b.0 sa) ∙ sym (same-at S s p.0 p.1 b.0 sb) ∙ h.alike in
      let once_a : count_by (S a.0) O' ≡ 1 = sym (count-congr S s p.0 a.0 sa O') ∙ sym (coarse-counts W S w s finer O O' olds p.0) ∙ h.old_once in
      let once_b : count_by (S b.0) N' ≡ 1 = sym (count-congr S s p.1 b.0 sb N') ∙ sym (coarse-counts W S w s finer N N' news p.1) ∙ h.new_once in
      let only : AreOnlyAlike S O' N' a.0 b.0 = record { old_there = a.1; new_there = b.1; alike = alike; old_once = once_a; new_once = once_b } in
      ((a.0, b.0), in-pair S s O' N' P' o' n' m' a.0 b.0 only, a.2, b.2)

  -- of the members of pairs at most one is like x, where each stands once by the coarser test
  at-most : (O front : List X) (back : List X) → IsPermutation O (front ++ back) → ((y : X) → Contains front y → StandsOnce S y O)
      → (x : X) → count_by (W x) front ≤ 1
  at-most O front back told once x = go (count_by (W x) front) refl
    where
      go : (k : ℕ) → count_by (W x) front ≡ k → count_by (W x) front ≤ 1
      go zero e = omega (arith, e)
      go (suc k) e =
          let y = counted (W x) front k e in
          let a = count-weaker (W x) (S x) (finer x) front in
          let b : count_by (S x) O ≡ 1 = count-congr S s x y.0 (finer x y.0 y.2) O ∙ once y.0 y.1 in
          let c = count-permutation (S x) O (front ++ back) told in
          let d = count-append (S x) front back in
          omega (arith, a, b, c, d)

-- equal counts of at most one
two-counts : (a b : ℕ) → a ≤ 1 → b ≤ 1 → (1 ≤ a → 1 ≤ b) → (1 ≤ b → 1 ≤ a) → a ≡ b
two-counts zero zero p q f g = refl
two-counts zero (suc b) p q f g = let h = g (omega arith) in absurd (omega (arith, h))
two-counts (suc a) zero p q f g = let h = f (omega arith) in absurd (omega (arith, h))
two-counts (suc a) (suc b) p q f g = omega (arith, p, q)

some-count : {Y : Type 0} (q : Y → Bool) (ys : List Y) → 1 ≤ count_by q ys → (y : Y) × Contains ys y × (q y ≡ true)
some-count {Y} q ys h = go (count_by q ys) refl
  where
    go : (n : ℕ) → count_by q ys ≡ n → (y : Y) × Contains ys y × (q y ≡ true)
    go zero e = absurd (omega (arith, e, h))
    go (suc n) e = counted q ys n e

-- a member of a pair stands among the members
first-of : {X : Type 0} (P : X → Type 0) (pairs : List (X × X)) → All (λ p. P p.0) pairs → (y : X) → Contains (firsts pairs) y → P y
first-of P [] all y there = absurd (omega (arith, there.1))
first-of {X} P (p ∷ ps) all y (zero, lt, at) = subst (λ (z : X). P z) at (All-head (λ (q : X × X). P q.0) p ps all)
first-of {X} P (p ∷ ps) all y (suc k, lt, at) = first-of P ps (All-tail (λ (q : X × X). P q.0) p ps all) y (k, omega (arith, lt), at)

second-of : {X : Type 0} (P : X → Type 0) (pairs : List (X × X)) → All (λ p. P p.1) pairs → (y : X) → Contains (seconds pairs) y → P y
second-of P [] all y there = absurd (omega (arith, there.1))
second-of {X} P (p ∷ ps) all y (zero, lt, at) = subst (λ (z : X). P z) at (All-head (λ (q : X × X). P q.1) p ps all)
second-of {X} P (p ∷ ps) all y (suc k, lt, at) = second-of P ps (All-tail (λ (q : X × X). P q.1) p ps all) y (k, omega (arith, lt), at)

module _ {X : Type 0} (W S : X → X → Bool) (w : IsEquivalence W) (s : IsEquivalence S) (finer : IsFiner W S)
    (O N O' N' : List X) (P P' : List (X × X)) (o n o' n' : List X) (m : ArePaired S O N P o n) (m' : ArePaired S O' N' P' o' n')
    (olds : SameCounts W O O') (news : SameCounts W N N') where
  -- a test of pairs that looks at what is like them, and is passed at most once, is passed as often
  equal-counts : (q : X × X → Bool) → ((a b : X × X) → W a.0 b.0 ≡ true → W a.1 b.1 ≡ true → q a ≡ true → q b ≡ true)
      → count_by q P ≤ 1 → count_by q P' ≤ 1 → count_by q P ≡ count_by q P'
  equal-counts q respects once once' = two-counts (count_by q P) (count_by q P') once once'
      (λ h.
      let p = some-count q P h in
      let r = other-pair W S w s finer O N O' N' P P' o n o' n' m m' olds news p.0 p.1 in
      count-there q P' r.0 r.1 (respects p.0 r.0 r.2 r.3 p.2))
      (λ h.
      let p = some-count q P' h in
      let r = other-pair W S w s finer O' N' O N P' P o' n' o n m' m (λ x. sym (olds x)) (λ x. sym (news x)) p.0 p.1 in
      count-there q P r.0 r.1 (respects p.0 r.0 r.2 r.3 p.2))

  once-first : (x : X) → count_by (λ (p : X × X). W x p.0) P ≤ 1
  once-first x =
      let a = at-most W S w s finer O (firsts P) o m.olds_told (first-of (λ y. StandsOnce S y O) P m.olds_once) x in
      let b = count-map (W x) (λ (p : X × X). p.0) P in
      omega (arith, a, b)

  once-first' : (x : X) → count_by (λ (p : X × X). W x p.0) P' ≤ 1
  once-first' x =
      let a = at-most W S w s finer O' (firsts P') o' m'.olds_told (first-of (λ y. StandsOnce S y O') P' m'.olds_once) x in
      let b = count-map (W x) (λ (p : X × X). p.0) P' in
      omega (arith, a, b)

  once-second : (x : X) → count_by (λ (p : X × X). W x p.1) P ≤ 1
  once-second x =
      let a = at-most W S w s finer N (seconds P) n m.news_told (second-of (λ y. StandsOnce S y N) P m.news_once) x in
      let b = count-map (W x) (λ (p : X × X). p.1) P in
      omega (arith, a, b)

  once-second' : (x : X) → count_by (λ (p : X × X). W x p.1) P' ≤ 1
  once-second' x =
      let a = at-most W S w s finer N' (seconds P') n' m'.news_told (second-of (λ y. StandsOnce S y N') P' m'.news_once) x in
      let b = count-map (W x) (λ (p : X × X). p.1) P' in
      omega (arith, a, b)

  olds-left : SameCounts W o o'
  olds-left x =
      let q : X × X → Bool = λ p. W x p.0 in
      let e = equal-counts q (λ a b h k t. sym (same-at W w x a.0 b.0 h) ∙ t) (once-first x) (once-first' x) in
      let a = olds x in
      let b = count-permutation (W x) O (firsts P ++ o) m.olds_told in
      let c = count-append (W x) (firsts P) o in
      let d = count-map (W x) (λ (p : X × X). p.0) P in
      let b' = count-permutation (W x) O' (firsts P' ++ o') m'.olds_told in
      let c' = count-append (W x) (firsts P') o' in
      let d' = count-map (W x) (λ (p : X × X). p.0) P' in
      omega (arith, e, a, b, c, d, b', c', d')

  news-left : SameCounts W n n'
  news-left x =
      let q : X × X → Bool = λ p. W x p.1 in
      let e = equal-counts q (λ a b h k t. sym (same-at W w x a.1 b.1 k) ∙ t) (once-second x) (once-second' x) in
      let a = news x in
      let b = count-permutation (W x) N (seconds P ++ n) m.news_told in
      let c = count-append (W x) (seconds P) n in
      let d = count-map (W x) (λ (p : X × X). p.1) P in
      let b' = count-permutation (W x) N' (seconds P' ++ n') m'.news_told in
      let c' = count-append (W x) (seconds P') n' in
      let d' = count-map (W x) (λ (p : X × X). p.1) P' in
      omega (arith, e, a, b, c, d, b', c', d')

  pairs-same : (x y : X) → count_by (λ (p : X × X). W x p.0 && W y p.1) P ≡ count_by (λ (p : X × X). W x p.0 && W y p.1) P'
  pairs-same x y =
      let q : X × X → Bool = λ p. W x p.0 && W y p.1 in
      let one : X × X → Bool = λ p. W x p.0 in
      let weaker : (p : X × X) → q p ≡ true → one p ≡ true = λ p h. (and_parts (W x p.0) (W y p.1) h).0 in
      let a = count-weaker q one weaker P in
      let b = once-first x in
      let a' = count-weaker q one weaker P' in
      let b' = once-first' x in
      equal-counts q (λ c d h k t. let both = and_parts (W x c.0) (W y c.1) t in
      let there : W x d.0 ≡ true = sym (same-at W w x c.0 d.0 h) ∙ both.0 in
      let here : W y d.1 ≡ true = sym (same-at W w y c.1 d.1 k) ∙ both.1 in
      λ i. there i && here i)
      (omega (arith, a, b)) (omega (arith, a', b'))

-- ---- in turn

laws-of : (likeness : Likeness) → IsEquivalence (is_alike likeness)
laws-of likeness = eq_by_cmp_equiv (likeness_total likeness)

abbrev SamePairs : List (PackageData × PackageData) → List (PackageData × PackageData) → Type 0
SamePairs pairs pairs' = (a b : PackageData) → count_of_pair a b pairs ≡ count_of_pair a b pairs'

in-turn-same : (ls : List Likeness) → All (λ l. IsFiner (is_alike Whole) (is_alike l)) ls
    → (O N O' N' : List PackageData) (ps ps' : List (List (PackageData × PackageData))) (o n o' n' : List PackageData)
    → ArePairedInTurn (map is_alike ls) O N ps o n → ArePairedInTurn (map is_alike ls) O' N' ps' o' n'
    → SameCounts (is_alike Whole) O O' → SameCounts (is_alike Whole) N N'
    → SamePairs (all_pairs ps) (all_pairs ps') × SameCounts (is_alike Whole) o o' × SameCounts (is_alike Whole) n n'
in-turn-same [] finer O N O' N' [] [] o n o' n' h h' olds news = (
  λ a b. refl,
  λ x. ap (count_by (is_alike Whole x)) (sym h.0) ∙ olds x ∙ ap (count_by (is_alike Whole x)) h'.0,
  λ x. ap (count_by (is_alike Whole x)) (sym h.1) ∙ news x ∙ ap (count_by (is_alike Whole x)) h'.1,
)
in-turn-same [] finer O N O' N' [] (p' ∷ ps') o n o' n' h h' olds news = absurd h'
in-turn-same [] finer O N O' N' (p ∷ ps) ps' o n o' n' h h' olds news = absurd h
in-turn-same (l ∷ ls) finer O N O' N' [] ps' o n o' n' h h' olds news = absurd h
in-turn-same (l ∷ ls) finer O N O' N' (p ∷ ps) [] o n o' n' h h' olds news = absurd h'
in-turn-same (l ∷ ls) finer O N O' N' (p ∷ ps) (p' ∷ ps') o n o' n' h h' olds news =
    let f = All-head (λ t. IsFiner (is_alike Whole) (is_alike t)) l ls finer in
    let here = pairs-same (is_alike Whole) (is_alike l) whole_laws (laws-of l) f O N O' N' p p' h.0 h.1 h'.0 h'.1 h.2 h'.2 olds news in
    let left = olds-left (is_alike Whole) (is_alike l) whole_laws (laws-of l) f O N O' N' p p' h.0 h.1 h'.0 h'.1 h.2 h'.2 olds news in
    let right = news-left (is_alike Whole) (is_alike l) whole_laws (laws-of l) f O N O' N' p p' h.0 h.1 h'.0 h'.1 h.2 h'.2 olds news in
    let rest = in-turn-same ls (All-tail (λ t. IsFiner (is_alike Whole) (is_alike t)) l ls finer) h.0 h.1 h'.0 h'.1 ps ps' o n o' n' h.3 h'.3 left right in (
      λ a b.
          let q : PackageData × PackageData → Bool = λ r. is_alike Whole a r.0 && is_alike Whole b r.1 in
          let e = here a b in
          let g = rest.0 a b in
          let c = count-append q p (all_pairs ps) in
          let c' = count-append q p' (all_pairs ps') in
          omega (arith, e, g, c, c'),
      rest.1,
      rest.2,
    )

abbrev T : Likeness → Type 0
T l = IsFiner (is_alike Whole) (is_alike l)

whole-all : All (λ l. IsFiner (is_alike Whole) (is_alike l)) turns
whole-all = All-cons T Place (Line ∷ Version ∷ Origin ∷ Name ∷ []) whole-place
    (All-cons T Line (Version ∷ Origin ∷ Name ∷ []) (λ a b h. place-line a b (whole-place a b h))
    (All-cons T Version (Origin ∷ Name ∷ []) (λ a b h. place-version a b (whole-place a b h))
    (All-cons T Origin (Name ∷ []) (λ a b h. place-origins a b (whole-place a b h))
    (All-cons T Name [] (λ a b h. place-name a b (whole-place a b h)) (All-nil T)))))

pub order_does_not_count : OrderDoesNotCount
order_does_not_count olds news olds' news' kept pairs kept' pairs' removed added removed' added' h h' po pn =
    let so = same-counts olds olds' po in
    let sn = same-counts news news' pn in
    let old : SameCounts (is_alike Whole) h.old h'.old = λ p.
    let a = left-counts (is_alike Whole) whole_laws p olds news kept h.old h.new h.wholly.olds_told h.wholly.news_told h.wholly.paired h.wholly.apart in
    let b = left-counts (is_alike Whole) whole_laws p olds' news' kept' h'.old h'.new h'.wholly.olds_told h'.wholly.news_told h'.wholly.paired h'.wholly.apart in
    a.0 ∙ (λ i. so p i - sn p i) ∙ sym b.0 in
    let new : SameCounts (is_alike Whole) h.new h'.new = λ p.
    let a = left-counts (is_alike Whole) whole_laws p olds news kept h.old h.new h.wholly.olds_told h.wholly.news_told h.wholly.paired h.wholly.apart in
    let b = left-counts (is_alike Whole) whole_laws p olds' news' kept' h'.old h'.new h'.wholly.olds_told h'.wholly.news_told h'.wholly.paired h'.wholly.apart in
    a.1 ∙ (λ i. sn p i - so p i) ∙ sym b.1 in
    let t = in-turn-same turns whole-all h.old h.new h'.old h'.new h.passes h'.passes removed added removed' added' h.in_turn h'.in_turn old new in (
      λ a b.
          let q : PackageData × PackageData → Bool = λ r. is_alike Whole a r.0 && is_alike Whole b r.1 in
          count-permutation q (all_pairs h.passes) pairs h.in_all ∙ t.0 a b ∙ sym (count-permutation q (all_pairs h'.passes) pairs' h'.in_all),
      t.1,
      t.2,
    )
