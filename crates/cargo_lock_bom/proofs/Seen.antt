-- The texts of packages in a set, one package after another.
use Rattle.std.proofs.Common.{◌≡◌, ℕ, ◌+◌, Bool, true, false, ◌||◌, cond, String, Global, string_bytes, BTreeSet, List, [], ◌∷◌, ◌++◌, map, take, slice_get, Some, refl, sym, ap, ◌∙◌}
use Rattle.std.specs.BTreeMap.{is_at}
use Rattle.std.specs.BTreeSet.{contains_text}
use Rattle.std.specs.Cmp.Lexicographic.{slice_cmp}
use Rattle.std.specs.List.{IsDistinct, list_any}
use Rattle.std.specs.Ordering.{nat_cmp}
use Rattle.std.specs.Str.{bytes_eq}
use Rattle.std.proofs.lemmas.Cmp.{nat_list_eq_equiv}
use Rattle.std.proofs.lemmas.List.{map-append}
use Rattle.std.proofs.lemmas.List.Folds.{list_any-append}
use Rattle.std.proofs.lemmas.Map.Keys.{IsDistinct-push}
use Rattle.std.proofs.lemmas.Map.Made.{AllPairs-from_IsDistinct}
use Rattle.std.proofs.lemmas.Map.Views.{Contains-from_any}
use Rattle.std.proofs.lemmas.Slice.Eq.{bytes_eq-Decides}
use Rattle.cargo_lock_parts.specs.Identity.{PackageData}
use Rattle.cargo_lock_bom.specs.References.{HaveDistinctReferences, IsRepeatedReference, package_reference}
use Rattle.cargo_lock_bom.proofs.Places.{take-next}

-- the texts of the packages are distinct, and are those that the set has
pub record AreSeen (packages : List PackageData) (has : List ℕ → Bool) : Type 0 where
  pub distinct : IsDistinct bytes_eq (map package_reference packages)
  pub told : (q : List ℕ) → has q ≡ list_any (bytes_eq q) (map package_reference packages)

or_false : (b c : Bool) → (b || c) ≡ (b || (c || false))
or_false true c = refl
or_false false true = refl
or_false false false = refl

-- a text that is set, or was there
pub cond-or : (b c : Bool) → cond b true c ≡ (c || b)
cond-or true true = refl
cond-or true false = refl
cond-or false true = refl
cond-or false false = refl

-- no package, and a set without texts
pub none-seen : (s : BTreeSet (String Global)) → s.keys ≡ [] → AreSeen [] (contains_text s)
unfolding IsDistinct
none-seen s empty = record {
  distinct = tt;
  told = λ q. ap (list_any (is_at (λ k. slice_cmp nat_cmp q (string_bytes k)))) empty;
}

-- one more package, whose text is new
pub next-seen : (all : List PackageData) (k : ℕ) (p : PackageData) (before after : List ℕ → Bool)
    → slice_get all k ≡ Some p → AreSeen (take k all) before → before (package_reference p) ≡ false
    → ((q : List ℕ) → after q ≡ (before q || bytes_eq q (package_reference p))) → AreSeen (take (k + 1) all) after
next-seen all k p before after at seen new grown =
    let texts = map package_reference (take k all) in
    let more : map package_reference (take (k + 1) all) ≡ texts ++ package_reference p ∷ [] =
    ap (map package_reference) (take-next all k p at) ∙ map-append package_reference (take k all) (p ∷ []) in
    record {
      distinct = rw more (IsDistinct-push nat_list_eq_equiv texts (package_reference p) seen.distinct (sym (seen.told (package_reference p)) ∙ new));
      told = λ q. rw more (grown q ∙ ap (λ b. b || bytes_eq q (package_reference p)) (seen.told q)
          ∙ or_false (list_any (bytes_eq q) texts) (bytes_eq q (package_reference p))
          ∙ sym (list_any-append (bytes_eq q) texts (package_reference p ∷ [])));
    }

-- a package whose text is there
pub seen-repeated : (all : List PackageData) (k : ℕ) (p : PackageData) (has : List ℕ → Bool)
    → slice_get all k ≡ Some p → AreSeen (take k all) has → has (package_reference p) ≡ true → IsRepeatedReference all p
seen-repeated all k p has at seen there = record {
  place = k;
  stands = at;
  earlier = Contains-from_any (λ x y. (bytes_eq-Decides x y).0) (package_reference p) (map package_reference (take k all)) (sym (seen.told (package_reference p)) ∙ there);
}

pub seen-distinct : (packages : List PackageData) (has : List ℕ → Bool) → AreSeen packages has → HaveDistinctReferences packages
seen-distinct packages has seen = AllPairs-from_IsDistinct bytes_eq-Decides (map package_reference packages) seen.distinct
