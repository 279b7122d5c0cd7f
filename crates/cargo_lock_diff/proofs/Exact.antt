-- The laws of pairings by what stands once.
use Rattle.std.proofs.Common.{◌≡◌, ◌+◌, ◌<◌, Bool, true, List, [], ◌∷◌, ◌++◌, ◌⊎◌, inl, inr, get_or, map, count_by, sym, ap, ◌∙◌, subst, arith, IsPermutation, All}
use Rattle.std.specs.Cmp.{IsEquivalence}
use Rattle.std.specs.List.{Contains}
use Rattle.std.proofs.lemmas.Bool.{cases_order}
use Rattle.std.proofs.lemmas.Cmp.{eq_by_cmp_equiv}
use Rattle.std.proofs.lemmas.List.{get_or_default, map-append}
use Rattle.std.proofs.lemmas.List.Elements.{All-contains, All-map, Contains-append_cases, Contains-append_left}
use Rattle.std.proofs.lemmas.List.Sorted.{Contains-permutation, IsPermutation-sym}
use Rattle.cargo_lock_parts.specs.Identity.{PackageData}
use Rattle.cargo_lock_diff.specs.declared.likeness.Likeness.{Likeness}
use Rattle.cargo_lock_diff.specs.Likeness.{is_alike}
use Rattle.cargo_lock_diff.specs.Matching.{firsts, seconds}
use Rattle.cargo_lock_diff.specs.Pairing.{ArePaired, ArePairedInTurn, IsFiner, StandsOnce}
use Rattle.cargo_lock_diff.specs.PairingLaws.{AreOnlyAlike, MirroredInTurn, NoneIsLeftInTurn, PairedExactly, ToldInTurn}
use Rattle.cargo_lock_diff.proofs.Orders.{likeness_total}
use Rattle.cargo_lock_diff.proofs.Counts.{count-append, count-permutation}
use Rattle.cargo_lock_diff.proofs.Alone.{counted-twice}
use Rattle.cargo_lock_diff.proofs.Once.{count-congr, count-there, in-one-part, mirrored}
use Rattle.lists.proofs.Members.{in-map as map-there, map-in as map-back}
use Rattle.cargo_lock_diff.proofs.InTurn.{in-turn-news, in-turn-olds, none-after-all}

laws_of : (likeness : Likeness) → IsEquivalence (is_alike likeness)
laws_of likeness = eq_by_cmp_equiv (likeness_total likeness)

-- two members that pass where one member passes are that one
once-same : {X : Type 0} (q : X → Bool) (xs : List X) (y z : X) → count_by q xs ≡ 1 → Contains xs y → Contains xs z → q y ≡ true → q z ≡ true → y ≡ z
once-same {X} q xs y z once in_y in_z y_hit z_hit = by_order (cases_order in_y.0 in_z.0)
  where
    by_order : (in_y.0 ≡ in_z.0) ⊎ ((in_y.0 < in_z.0) ⊎ (in_z.0 < in_y.0)) → y ≡ z
    by_order (inl e) = sym in_y.2 ∙ get_or_default xs in_y.0 y z in_y.1 ∙ ap (λ k. get_or xs k z) e ∙ in_z.2
    by_order (inr (inl lt)) = let n = counted-twice q xs in_y.0 in_z.0 y z lt in_z.1 in_y.2 in_z.2 y_hit z_hit in absurd (omega (arith, n, once))
    by_order (inr (inr gt)) = let n = counted-twice q xs in_z.0 in_y.0 z y gt in_y.1 in_z.2 in_y.2 z_hit y_hit in absurd (omega (arith, n, once))

once-part : {X : Type 0} (same : X → X → Bool) → IsEquivalence same → (all front back : List X) (x : X) → IsPermutation all (front ++ back)
    → StandsOnce same x all → Contains back x → StandsOnce same x back
once-part same laws all front back x told once there =
    let whole : count_by (same x) all ≡ count_by (same x) front + count_by (same x) back
    = sym (count-permutation (same x) all (front ++ back) told) ∙ count-append (same x) front back in
    let some = count-there (same x) back x there (laws.refl x) in
    omega (arith, whole, once, some)

pub only-alike : {X : Type 0} (same : X → X → Bool) → (olds news : List X) (pairs : List (X × X)) (old new : List X) → ArePaired same olds news pairs old new
    → (a b : X) → Contains pairs (a, b) → AreOnlyAlike same olds news a b
only-alike {X} same olds news pairs old new m a b there = record {
  old_there = Contains-permutation (firsts pairs ++ old) olds a (IsPermutation-sym olds (firsts pairs ++ old) m.olds_told)
      (Contains-append_left (firsts pairs) old a (map-there (λ (q : X × X). q.0) pairs (a, b) there));
  new_there = Contains-permutation (seconds pairs ++ new) news b (IsPermutation-sym news (seconds pairs ++ new) m.news_told)
      (Contains-append_left (seconds pairs) new b (map-there (λ (q : X × X). q.1) pairs (a, b) there));
  alike = All-contains (λ (q : X × X). same q.0 q.1 ≡ true) pairs (a, b) m.alike there;
  old_once = All-contains (λ (q : X × X). StandsOnce same q.0 olds) pairs (a, b) m.olds_once there;
  new_once = All-contains (λ (q : X × X). StandsOnce same q.1 news) pairs (a, b) m.news_once there;
}

pub in-pair : {X : Type 0} (same : X → X → Bool) → IsEquivalence same → (olds news : List X) (pairs : List (X × X)) (old new : List X) → ArePaired same olds news pairs old new
    → (a b : X) → AreOnlyAlike same olds news a b → Contains pairs (a, b)
in-pair {X} same laws olds news pairs old new m a b h = by_old (Contains-append_cases (firsts pairs) old a (Contains-permutation olds (firsts pairs ++ old) a m.olds_told h.old_there))
  where
    with_b : (p : X × X) → Contains pairs p → p.0 ≡ a → Contains pairs (a, b)
    with_b p there e =
        let o = only-alike same olds news pairs old new m p.0 p.1 there in
        let like : same b p.1 ≡ true = sym (laws.congr a b p.1 h.alike) ∙ subst (λ (x : X). same x p.1 ≡ true) e o.alike in
        let f : p.1 ≡ b = once-same (same b) news p.1 b h.new_once o.new_there h.new_there like (laws.refl b) in
        subst (λ (q : X × X). Contains pairs q) (λ i. (e i, f i)) there

    by_new : Contains old a → Contains (seconds pairs) b ⊎ Contains new b → Contains pairs (a, b)
    by_new left (inl second) =
        let p = map-back (λ (q : X × X). q.1) pairs b second in
        let o = only-alike same olds news pairs old new m p.0.0 p.0.1 p.1 in
        let p_like : same p.0.0 b ≡ true = subst (λ (x : X). same p.0.0 x ≡ true) p.2 o.alike in
        let like : same a p.0.0 ≡ true = laws.congr a b p.0.0 h.alike ∙ laws.symm b p.0.0 ∙ p_like in
        absurd (in-one-part same olds (firsts pairs) old a p.0.0 a m.olds_told h.old_once (map-there (λ (q : X × X). q.0) pairs p.0 p.1) like left (laws.refl a))
    by_new left (inr right) = absurd (m.none_left a (once-part same laws olds (firsts pairs) old a m.olds_told h.old_once left)
        (count-congr same laws a b h.alike new ∙ once-part same laws news (seconds pairs) new b m.news_told h.new_once right))

    by_old : Contains (firsts pairs) a ⊎ Contains old a → Contains pairs (a, b)
    by_old (inl first) = let p = map-back (λ (q : X × X). q.0) pairs a first in with_b p.0 p.1 p.2
    by_old (inr left) = by_new left (Contains-append_cases (seconds pairs) new b (Contains-permutation news (seconds pairs ++ new) b m.news_told h.new_there))

pub paired_exactly : PairedExactly
paired_exactly likeness olds news pairs old new m a b =
    (only-alike (is_alike likeness) olds news pairs old new m a b, in-pair (is_alike likeness) (laws_of likeness) olds news pairs old new m a b)

pub told_in_turn : ToldInTurn
told_in_turn likenesses olds news passes old new h =
    (in-turn-olds (map is_alike likenesses) olds news passes old new h, in-turn-news (map is_alike likenesses) olds news passes old new h)

pub mirrored_in_turn : MirroredInTurn
mirrored_in_turn [] olds news [] old new h = (h.1, h.0)
mirrored_in_turn [] olds news (p ∷ ps) old new h = absurd h
mirrored_in_turn (l ∷ ls) olds news [] old new h = absurd h
mirrored_in_turn (l ∷ ls) olds news (p ∷ ps) old new h =
    (h.1, h.0, mirrored (is_alike l) (laws_of l) olds news p h.0 h.1 h.2, mirrored_in_turn ls h.0 h.1 ps old new h.3)

all-laws : (likenesses : List Likeness) → All IsEquivalence (map is_alike likenesses)
all-laws likenesses = All-map IsEquivalence is_alike likenesses (λ k d lt. laws_of (get_or likenesses k d))

pub none_is_left_in_turn : NoneIsLeftInTurn
none_is_left_in_turn before likeness later finer olds news passes old new h =
    none-after-all (map is_alike before) (is_alike likeness) (map is_alike later) (laws_of likeness) (all-laws later)
    (All-map (IsFiner (is_alike likeness)) is_alike later finer) olds news passes old new
    (subst (λ (ts : List (PackageData → PackageData → Bool)). ArePairedInTurn ts olds news passes old new) (map-append is_alike before (likeness ∷ later)) h)
