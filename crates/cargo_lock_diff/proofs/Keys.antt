-- The keys of packages, and the laws of differences.
use Rattle.std.proofs.Common.{◌≡◌, ℕ, ◌+◌, ◌-◌, Bool, true, cond, List, [], ◌∷◌, ◌++◌, map, count_by, refl, ap, sym, ◌∙◌, subst, arith, IsPermutation}
use Rattle.std.specs.declared.cmp.Ordering.{Ordering}
use Rattle.std.specs.Ordering.{on, then_cmp, ordering_then, is_eq}
use Rattle.std.specs.Option.{option_cmp}
use Rattle.std.specs.Cmp.{Equal-is, IsEquivalence, eq_by_cmp_equiv}
use Rattle.std.specs.FinMap.{IsAntisymmetric}
use Rattle.std.proofs.lemmas.List.{append-nil}
use Rattle.std.proofs.lemmas.List.Elements.{All-head, All-tail}
use Rattle.std.proofs.lemmas.List.Sorted.{IsPermutation-map, IsPermutation-sym, IsPermutation-trans}
use Rattle.cargo_lock_parts.specs.Identity.{Identity, PackageData}
use Rattle.cargo_lock_parts.specs.IdentityOrder.{by_name_version_source, version_cmp}
use Rattle.cargo_lock_parts.specs.IdentityLaws.{option_cmp-anti, option_cmp-by, text_cmp-anti, tied-three, version_cmp-anti, key_cmp-anti}
use Rattle.cargo_lock_parts.specs.Source.{Source}
use Rattle.cargo_lock_parts.specs.SourceKey.{key_cmp, key_of, source_cmp, text_cmp}
use Rattle.cargo_lock_diff.specs.declared.likeness.Likeness.TheVariants.{Whole}
use Rattle.cargo_lock_diff.specs.Keys.{PlaceKey, WholeKey, place_key, place_of_source, whole_key}
use Rattle.cargo_lock_diff.specs.Likeness.{is_alike, likeness_cmp}
use Rattle.cargo_lock_diff.specs.Place.{other_source, place_cmp, placed_identity_cmp}
use Rattle.cargo_lock_diff.specs.Matching.{firsts, seconds}
use Rattle.cargo_lock_diff.specs.declared.accepted.Accepted.{Accepted}
use Rattle.cargo_lock_diff.specs.Difference.{DifferenceData, EmptyIfPermuted, IsDifferenceBut, HasNoChanges, ToldByCount, ToldOnce, count_of_package, new_told, old_told}
use Rattle.cargo_lock_diff.proofs.Orders.{likeness_total}
use Rattle.cargo_lock_diff.proofs.Counts.{count-cons, count-permutation, left-counts}
use Rattle.cargo_lock_diff.proofs.Pairs.{AreAlike, news-told, olds-told, told-apart}
use Rattle.lists.proofs.Tests.{append-none, map-none}

pub whole_laws : IsEquivalence (is_alike Whole)
whole_laws = eq_by_cmp_equiv (likeness_total Whole)

pub told_once : ToldOnce
told_once accepted olds news d h = (olds-told h.paired, news-told h.paired)

pub told_by_count : ToldByCount
told_by_count accepted olds news d h p =
    left-counts (is_alike Whole) whole_laws p olds news d.kept (old_told d) (new_told d)
    (olds-told h.paired) (news-told h.paired) h.paired.wholly.paired (told-apart h.paired)

-- ---- what is wholly alike has one key

place_key_cmp : PlaceKey → PlaceKey → Ordering
place_key_cmp = by_name_version_source (λ k. k.name) (λ k. k.version) (λ k. k.place)
    version_cmp (option_cmp key_cmp)

place_key-anti : IsAntisymmetric place_key_cmp
unfolding place_key_cmp
place_key-anti j k e =
    let tied = tied-three _ _ _ e in
    let name = text_cmp-anti j.name k.name tied.0 in
    let version = version_cmp-anti j.version k.version tied.1 in
    let place = option_cmp-anti (option_cmp-anti key_cmp-anti) j.place k.place tied.2 in
    λ i. record { name = name i; version = version i; place = place i }

place_cmp-key : (a b : Source) → place_cmp a b ≡ option_cmp key_cmp (place_of_source a) (place_of_source b)
place_cmp-key a b = option_cmp-by key_of source_cmp key_cmp (λ x y. refl) (other_source a) (other_source b)

placed-key : (a b : Identity) → placed_identity_cmp a b ≡ place_key_cmp (place_key a) (place_key b)
unfolding place_key_cmp
placed-key a b = ap (ordering_then _) (option_cmp-by place_of_source place_cmp (option_cmp key_cmp) place_cmp-key a.source b.source)

whole_key_cmp : WholeKey → WholeKey → Ordering
whole_key_cmp = then_cmp (then_cmp
    (on (λ k. k.at) place_key_cmp)
    (on (λ k. k.checksum) (option_cmp text_cmp)))
    (on (λ k. k.replace) (option_cmp place_key_cmp))

whole_key-anti : IsAntisymmetric whole_key_cmp
unfolding whole_key_cmp
whole_key-anti j k e =
    let tied = tied-three _ _ _ e in
    let at = place_key-anti j.at k.at tied.0 in
    let checksum = option_cmp-anti text_cmp-anti j.checksum k.checksum tied.1 in
    let replace = option_cmp-anti place_key-anti j.replace k.replace tied.2 in
    λ i. record { at = at i; checksum = checksum i; replace = replace i }

whole_cmp-key : (a b : PackageData) → likeness_cmp Whole a b ≡ whole_key_cmp (whole_key a) (whole_key b)
unfolding whole_key_cmp
whole_cmp-key a b =
    let at = placed-key (record { name = a.name; version = a.version; source = a.source }) (record { name = b.name; version = b.version; source = b.source }) in
    let replace = option_cmp-by place_key placed_identity_cmp place_key_cmp placed-key a.replace b.replace in
    λ i. ordering_then (ordering_then (at i) (option_cmp text_cmp a.checksum b.checksum)) (replace i)

pub one_key : (a b : PackageData) → is_alike Whole a b ≡ true → whole_key a ≡ whole_key b
one_key a b h = whole_key-anti _ _ (sym (whole_cmp-key a b) ∙ (Equal-is (likeness_cmp Whole a b)).0 h)

has_key : PackageData → WholeKey → Bool
has_key p k = is_eq (whole_key_cmp (whole_key p) k)

count-keys : (p : PackageData) (xs : List PackageData) → count_of_package p xs ≡ count_by (has_key p) (map whole_key xs)
unfolding has_key
count-keys p [] = refl
count-keys p (x ∷ xs) =
    count-cons (is_alike Whole p) x xs ∙ (λ i. cond (is_eq (whole_cmp-key p x i)) 1 0 + count-keys p xs i)
    ∙ sym (count-cons (has_key p) (whole_key x) (map whole_key xs))

-- ---- nothing is told exactly where the keys are permuted

pair-keys : (pairs : List (PackageData × PackageData)) → AreAlike Whole pairs → map whole_key (firsts pairs) ≡ map whole_key (seconds pairs)
pair-keys [] all = refl
pair-keys (p ∷ ps) all =
    let one = one_key p.0 p.1 (All-head (λ (q : PackageData × PackageData). is_alike Whole q.0 q.1 ≡ true) p ps all) in
    let rest = pair-keys ps (All-tail (λ (q : PackageData × PackageData). is_alike Whole q.0 q.1 ≡ true) p ps all) in
    λ i. one i ∷ rest i

old-none : (d : DifferenceData) → HasNoChanges d → old_told d ≡ []
old-none d e = λ i. firsts (e.pairs i) ++ e.removed i

new-none : (d : DifferenceData) → HasNoChanges d → new_told d ≡ []
new-none d e = λ i. seconds (e.pairs i) ++ e.added i

permuted : {accepted : List Accepted} (olds news : List PackageData) (d : DifferenceData) → IsDifferenceBut accepted olds news d → HasNoChanges d → IsPermutation (map whole_key olds) (map whole_key news)
permuted olds news d h e =
    let p : IsPermutation olds (firsts d.kept) = subst (λ zs. IsPermutation olds zs) (ap (λ zs. firsts d.kept ++ zs) (old-none d e) ∙ append-nil (firsts d.kept)) (olds-told h.paired) in
    let q : IsPermutation news (seconds d.kept) = subst (λ zs. IsPermutation news zs) (ap (λ zs. seconds d.kept ++ zs) (new-none d e) ∙ append-nil (seconds d.kept)) (news-told h.paired) in
    let pk = IsPermutation-map whole_key olds (firsts d.kept) p in
    let qk = IsPermutation-sym (map whole_key news) (map whole_key (seconds d.kept)) (IsPermutation-map whole_key news (seconds d.kept) q) in
    IsPermutation-trans (map whole_key olds) (map whole_key (seconds d.kept)) (map whole_key news)
    (subst (λ zs. IsPermutation (map whole_key olds) zs) (pair-keys d.kept h.paired.wholly.paired) pk) qk

none-there : (xs : List PackageData) → ((p : PackageData) → count_of_package p xs ≡ 0) → xs ≡ []
none-there [] h = refl
none-there (x ∷ xs) h =
    let e : count_of_package x (x ∷ xs) ≡ 1 + count_of_package x xs = count-cons (is_alike Whole x) x xs ∙ ap (λ b. cond b 1 0 + count_of_package x xs) (whole_laws.refl x) in
    absurd (omega (arith, e, h x))

-- lists whose keys are permuted have each package as often
pub same-counts : (xs ys : List PackageData) → IsPermutation (map whole_key xs) (map whole_key ys) → (p : PackageData) → count_of_package p xs ≡ count_of_package p ys
same-counts xs ys perm p = count-keys p xs ∙ sym (count-permutation (has_key p) (map whole_key xs) (map whole_key ys) perm) ∙ sym (count-keys p ys)

emptied : (accepted : List Accepted) (olds news : List PackageData) (d : DifferenceData) → IsDifferenceBut accepted olds news d → IsPermutation (map whole_key olds) (map whole_key news) → HasNoChanges d
emptied accepted olds news d h perm =
    let same : (p : PackageData) → count_of_package p news ≡ count_of_package p olds = λ p. count-keys p news ∙ count-permutation (has_key p) (map whole_key olds) (map whole_key news) perm ∙ sym (count-keys p olds) in
    let o : old_told d ≡ [] = none-there (old_told d) (λ p. (told_by_count accepted olds news d h p).0 ∙ level _ _ (sym (same p))) in
    let n : new_told d ≡ [] = none-there (new_told d) (λ p. (told_by_count accepted olds news d h p).1 ∙ level _ _ (same p)) in
    let o1 = append-none (firsts d.pairs) d.removed o in
    let n1 = append-none (seconds d.pairs) d.added n in
    record {
      pairs = map-none (λ (p : PackageData × PackageData). p.0) d.pairs o1.0;
      removed = o1.1;
      added = n1.1;
    }
  where
    level : (m n : ℕ) → m ≡ n → m - n ≡ 0
    level m n e = omega arith

pub empty_if_permuted : EmptyIfPermuted
empty_if_permuted accepted olds news d h = (permuted olds news d h, emptied accepted olds news d h)
