-- The pairs of a difference: made by passes, as often as given, and mirrored.
use Rattle.std.proofs.Common.{◌≡◌, true, false, List, [], ◌∷◌, ◌++◌, get_or, map, refl, ap, ◌∙◌, subst, IsPermutation, All}
use Rattle.std.specs.Borrow.{Bor}
use Rattle.std.specs.List.{Contains, flat_map}
use Rattle.std.specs.Cmp.{IsEquivalence}
use Rattle.std.proofs.lemmas.List.{map-append}
use Rattle.std.proofs.lemmas.List.Elements.{All-weaker, Contains-append_left, Contains-append_right, Contains-get_or}
use Rattle.std.proofs.lemmas.List.Sorted.{All-permutation, Contains-permutation, IsPermutation-append_left, IsPermutation-append_right, IsPermutation-map, IsPermutation-sym, IsPermutation-trans}
use Rattle.cargo_lock_parts.specs.Identity.{PackageData}
use Rattle.cargo_lock_diff.specs.declared.likeness.Likeness.{Likeness}
use Rattle.cargo_lock_diff.specs.declared.likeness.Likeness.TheVariants.{Whole}
use Rattle.cargo_lock_diff.specs.Likeness.{is_alike}
use Rattle.cargo_lock_diff.specs.Matching.{AreMatched, PassesWithNone, is_alike_at, firsts, seconds}
use Rattle.cargo_lock_diff.specs.Pairing.{ArePairedInTurn}
use Rattle.cargo_lock_diff.specs.Difference.{IsPairing, referred_packages, referred_pairs, turns}
use Rattle.cargo_lock_diff.proofs.Matched.{matched-map}
use Rattle.lists.proofs.Members.{in-map as map-there}
use Rattle.cargo_lock_diff.proofs.InTurn.{all_pairs, in-turn-news, in-turn-olds, paired-map}

-- the packages of each pair are so much alike
abbrev pub AreAlike : Likeness → List (PackageData × PackageData) → Type 0
AreAlike likeness pairs = All (λ p. is_alike likeness p.0 p.1 ≡ true) pairs

-- ---- as often as given

rest-told : {X : Type 0} (xs front ys zs : List X) → IsPermutation xs (front ++ ys) → IsPermutation ys zs → IsPermutation xs (front ++ zs)
rest-told xs front ys zs p q = IsPermutation-trans xs (front ++ ys) (front ++ zs) p (IsPermutation-append_right front ys zs q)

pub left-olds : {olds news : List PackageData} {kept pairs : List (PackageData × PackageData)} {removed added : List PackageData}
    → (h : IsPairing olds news kept pairs removed added) → IsPermutation h.old (firsts pairs ++ removed)
left-olds {pairs = pairs} {removed = removed} {added = added} h =
    IsPermutation-trans h.old (firsts (all_pairs h.passes) ++ removed) (firsts pairs ++ removed)
    (in-turn-olds (map is_alike turns) h.old h.new h.passes removed added h.in_turn)
    (IsPermutation-append_left removed (firsts (all_pairs h.passes)) (firsts pairs)
    (IsPermutation-map (λ (p : PackageData × PackageData). p.0) (all_pairs h.passes) pairs h.in_all))

pub left-news : {olds news : List PackageData} {kept pairs : List (PackageData × PackageData)} {removed added : List PackageData}
    → (h : IsPairing olds news kept pairs removed added) → IsPermutation h.new (seconds pairs ++ added)
left-news {pairs = pairs} {removed = removed} {added = added} h =
    IsPermutation-trans h.new (seconds (all_pairs h.passes) ++ added) (seconds pairs ++ added)
    (in-turn-news (map is_alike turns) h.old h.new h.passes removed added h.in_turn)
    (IsPermutation-append_left added (seconds (all_pairs h.passes)) (seconds pairs)
    (IsPermutation-map (λ (p : PackageData × PackageData). p.1) (all_pairs h.passes) pairs h.in_all))

pub olds-told : {olds news : List PackageData} {kept pairs : List (PackageData × PackageData)} {removed added : List PackageData}
    → IsPairing olds news kept pairs removed added → IsPermutation olds (firsts kept ++ (firsts pairs ++ removed))
olds-told {olds = olds} {kept = kept} {pairs = pairs} {removed = removed} h = rest-told olds (firsts kept) h.old (firsts pairs ++ removed) h.wholly.olds_told (left-olds h)

pub news-told : {olds news : List PackageData} {kept pairs : List (PackageData × PackageData)} {removed added : List PackageData}
    → IsPairing olds news kept pairs removed added → IsPermutation news (seconds kept ++ (seconds pairs ++ added))
news-told {news = news} {kept = kept} {pairs = pairs} {added = added} h = rest-told news (seconds kept) h.new (seconds pairs ++ added) h.wholly.news_told (left-news h)

-- the old packages of pairs are old packages
pub pairs-olds : {olds news : List PackageData} {kept pairs : List (PackageData × PackageData)} {removed added : List PackageData}
    → IsPairing olds news kept pairs removed added → All (λ p. Contains olds p.0) pairs
pairs-olds {olds = olds} {kept = kept} {pairs = pairs} {removed = removed} h = λ k d lt.
    let p = get_or pairs k d in
    let told = firsts pairs ++ removed in
    Contains-permutation (firsts kept ++ told) olds p.0 (IsPermutation-sym olds (firsts kept ++ told) (olds-told h))
    (Contains-append_right (firsts kept) told p.0 (Contains-append_left (firsts pairs) removed p.0
    (map-there (λ (q : PackageData × PackageData). q.0) pairs p (Contains-get_or pairs k d lt))))

-- no two packages that are told are wholly alike
pub told-apart : {olds news : List PackageData} {kept pairs : List (PackageData × PackageData)} {removed added : List PackageData}
    → IsPairing olds news kept pairs removed added
    → All (λ o. PassesWithNone (is_alike Whole) o (seconds pairs ++ added)) (firsts pairs ++ removed)
told-apart {pairs = pairs} {removed = removed} {added = added} h =
    All-weaker (λ o. PassesWithNone (is_alike Whole) o h.new) (λ o. PassesWithNone (is_alike Whole) o (seconds pairs ++ added))
    (λ o none. All-permutation (λ n. is_alike Whole o n ≡ false) h.new (seconds pairs ++ added) (left-news h) none) (firsts pairs ++ removed)
    (All-permutation (λ o. PassesWithNone (is_alike Whole) o h.new) h.old (firsts pairs ++ removed) (left-olds h) h.wholly.apart)

-- ---- from references to packages

in-turn-at : (ls : List Likeness) (olds news : List (Bor PackageData)) (passes : List (List (Bor PackageData × Bor PackageData))) (old new : List (Bor PackageData))
    → ((likeness : Likeness) → IsEquivalence (is_alike likeness))
    → ArePairedInTurn (map is_alike_at ls) olds news passes old new
    → ArePairedInTurn (map is_alike ls) (referred_packages olds) (referred_packages news) (map referred_pairs passes) (referred_packages old) (referred_packages new)
in-turn-at [] olds news [] old new laws h = (ap referred_packages h.0, ap referred_packages h.1)
in-turn-at [] olds news (p ∷ ps) old new laws h = absurd h
in-turn-at (l ∷ ls) olds news [] old new laws h = absurd h
in-turn-at (l ∷ ls) olds news (p ∷ ps) old new laws h = (
  referred_packages h.0,
  referred_packages h.1,
  paired-map (λ (b : Bor PackageData). b.now) (is_alike l) (laws l) olds news p h.0 h.1 h.2,
  in-turn-at ls h.0 h.1 ps old new laws h.3,
)

flat-at : (passes : List (List (Bor PackageData × Bor PackageData)))
    → referred_pairs (flat_map (λ pass. pass) passes) ≡ flat_map (λ pass. pass) (map referred_pairs passes)
flat-at [] = refl
flat-at (p ∷ ps) = map-append (λ (q : Bor PackageData × Bor PackageData). (q.0.now, q.1.now)) p (flat_map (λ pass. pass) ps) ∙ ap (λ zs. referred_pairs p ++ zs) (flat-at ps)

pub paired-at : (olds news : List (Bor PackageData)) (kept : List (Bor PackageData × Bor PackageData)) (o n : List (Bor PackageData))
    (passes : List (List (Bor PackageData × Bor PackageData))) (pairs : List (Bor PackageData × Bor PackageData)) (removed added : List (Bor PackageData))
    → ((likeness : Likeness) → IsEquivalence (is_alike likeness))
    → AreMatched (is_alike_at Whole) olds news kept o n → ArePairedInTurn (map is_alike_at turns) o n passes removed added
    → IsPermutation (flat_map (λ pass. pass) passes) pairs
    → IsPairing (referred_packages olds) (referred_packages news) (referred_pairs kept) (referred_pairs pairs) (referred_packages removed) (referred_packages added)
paired-at olds news kept o n passes pairs removed added laws m t p = record {
  old = referred_packages o;
  new = referred_packages n;
  wholly = matched-map (λ (b : Bor PackageData). b.now) (is_alike Whole) olds news kept o n m;
  passes = map referred_pairs passes;
  in_turn = in-turn-at turns o n passes removed added laws t;
  in_all = subst (λ zs. IsPermutation zs (referred_pairs pairs)) (flat-at passes)
      (IsPermutation-map (λ (q : Bor PackageData × Bor PackageData). (q.0.now, q.1.now)) (flat_map (λ pass. pass) passes) pairs p);
}

-- the pairs of lists of pairs that are behind a function
pub flat-map : {V X : Type 0} (f : V → List X) (vs : List V) → flat_map f vs ≡ flat_map (λ xs. xs) (map f vs)
flat-map f [] = refl
flat-map f (v ∷ vs) = ap (λ zs. f v ++ zs) (flat-map f vs)
