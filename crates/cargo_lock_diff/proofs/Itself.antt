-- A list in which no two packages are wholly alike has no change to itself.
use Rattle.std.proofs.Common.{◌≡◌, ℕ, ◌<◌, Bool, true, false, true≢false, cond, List, [], ◌∷◌, ◌++◌, ◌⊎◌, inl, inr, length, get_or, map, refl, ap, sym, ◌∙◌, subst, arith, All}
use Rattle.std.specs.Prelude.{◌||◌, AllPairs}
use Rattle.std.specs.Cmp.{IsEquivalence, eq_by_cmp_equiv}
use Rattle.std.specs.List.{Contains, filter, list_any}
use Rattle.std.proofs.lemmas.Bool.{cases_order}
use Rattle.std.proofs.lemmas.List.{get_or_default}
use Rattle.std.proofs.lemmas.List.Elements.{All-contains, All-head, All-tail, Contains-get_or, Contains-append_left}
use Rattle.std.proofs.lemmas.List.Sorted.{Contains-permutation, IsPermutation-refl, IsPermutation-sym}
use Rattle.cargo_lock_parts.specs.Identity.{Identity, PackageData}
use Rattle.cargo_lock_diff.specs.declared.likeness.Likeness.TheVariants.{Whole}
use Rattle.cargo_lock_diff.specs.Change.{changes_of, dependency_change_of, other_dependencies}
use Rattle.cargo_lock_diff.specs.Dependencies.{are_one, have_other_dependencies, is_carried_either, is_met}
use Rattle.cargo_lock_diff.specs.Difference.{HasNoChanges}
use Rattle.cargo_lock_diff.specs.Keys.{whole_key}
use Rattle.cargo_lock_diff.specs.Likeness.{is_alike}
use Rattle.cargo_lock_diff.specs.Matching.{firsts, seconds}
use Rattle.cargo_lock_diff.specs.Mirror.{NoneToItself}
use Rattle.cargo_lock_diff.proofs.Carried.{none-fails}
use Rattle.cargo_lock_diff.proofs.Keys.{empty_if_permuted, whole_laws}
use Rattle.cargo_lock_diff.proofs.Leads.{or-true}
use Rattle.cargo_lock_diff.proofs.Orders.{target_total}
use Rattle.cargo_lock_diff.proofs.Pairs.{AreAlike, news-told, olds-told}
use Rattle.cargo_lock_diff.proofs.Told.{none_if_permuted}
use Rattle.cargo_lock_diff.proofs.Vouched.{any-there}
use Rattle.lists.proofs.Members.{in-map}

-- wholly alike members of such a list are one
one-member : (ps : List PackageData) → AllPairs (λ p q. is_alike Whole p q ≡ false) ps → (a b : PackageData)
    → Contains ps a → Contains ps b → is_alike Whole a b ≡ true → a ≡ b
one-member ps apart a b at_a at_b alike = by (cases_order at_a.0 at_b.0)
  where
    clash : (x y : PackageData) (i j : ℕ) → i < j → j < length ps → get_or ps i x ≡ x → get_or ps j y ≡ y → is_alike Whole x y ≡ true → ⊥
    clash x y i j lt within is_x is_y h =
        let first : get_or ps i y ≡ x = get_or_default ps i y x (omega arith) ∙ is_x in
        let miss : is_alike Whole x y ≡ false = (λ k. is_alike Whole (sym first k) (sym is_y k)) ∙ apart i j y lt within in
        true≢false (sym h ∙ miss)

    by : ((at_a.0 ≡ at_b.0) ⊎ ((at_a.0 < at_b.0) ⊎ (at_b.0 < at_a.0))) → a ≡ b
    by (inl e) = sym at_a.2 ∙ ap (λ k. get_or ps k a) e ∙ get_or_default ps at_b.0 a b at_b.1 ∙ at_b.2
    by (inr (inl lt)) = absurd (clash a b at_a.0 at_b.0 lt at_b.1 at_a.2 at_b.2 alike)
    by (inr (inr lt)) = absurd (clash b a at_b.0 at_a.0 lt at_a.1 at_b.2 at_a.2 (whole_laws.symm b a ∙ alike))

-- the packages of such pairs are one
all-one : (ps : List PackageData) → AllPairs (λ p q. is_alike Whole p q ≡ false) ps → (pairs : List (PackageData × PackageData))
    → AreAlike Whole pairs → ((p : PackageData × PackageData) → Contains pairs p → Contains ps p.0 × Contains ps p.1)
    → All (λ p. p.0 ≡ p.1) pairs
all-one ps apart pairs alike there = λ k d lt.
    let p = get_or pairs k d in
    let in_pairs = Contains-get_or pairs k d lt in
    let members = there p in_pairs in
    one-member ps apart p.0 p.1 members.0 members.1 (All-contains (λ (q : PackageData × PackageData). is_alike Whole q.0 q.1 ≡ true) pairs p alike in_pairs)

one_laws : IsEquivalence are_one
one_laws = eq_by_cmp_equiv target_total

-- a package has the dependencies of itself
no-others : (targets : List (PackageData × PackageData)) (p : PackageData) → have_other_dependencies targets p p ≡ false
no-others targets p =
    let ds = p.dependencies in
    let met : (forward : Bool) (d : Identity) → Contains ds d → is_met forward targets ds d ≡ true
    = λ forward d there. or-true (list_any (are_one d) ds) (list_any (is_carried_either forward targets d) ds)
    (inl (any-there (are_one d) ds d there (one_laws.refl d))) in
    λ i. none-fails (is_met true targets ds) ds (met true) i || none-fails (is_met false targets ds) ds (met false) i

none-told : (targets pairs : List (PackageData × PackageData)) → All (λ p. p.0 ≡ p.1) pairs → other_dependencies targets pairs ≡ []
none-told targets [] all = refl
none-told targets (p ∷ ps) all =
    let same : p.0 ≡ p.1 = All-head (λ (q : PackageData × PackageData). q.0 ≡ q.1) p ps all in
    let miss : have_other_dependencies targets p.0 p.1 ≡ false
    = subst (λ (q : PackageData). have_other_dependencies targets p.0 q ≡ false) same (no-others targets p.0) in
    let passing : List (PackageData × PackageData) = filter (λ q. have_other_dependencies targets q.0 q.1) ps in
    (λ i. map (dependency_change_of targets) (cond (miss i) (p ∷ passing) passing))
    ∙ none-told targets ps (All-tail (λ (q : PackageData × PackageData). q.0 ≡ q.1) p ps all)

pub none-to-itself : NoneToItself
none-to-itself accepted ps d apart h =
    let perm = IsPermutation-refl (map whole_key ps) in
    let empty : HasNoChanges d = (empty_if_permuted accepted ps ps d h).1 perm in
    let none : changes_of d ≡ [] = (none_if_permuted accepted ps ps d h).1 perm in
    let targets : List (PackageData × PackageData) = d.kept ++ d.pairs in
    let olds = olds-told h.paired in
    let news = news-told h.paired in
    let one : All (λ p. p.0 ≡ p.1) d.kept = all-one ps apart d.kept h.paired.wholly.paired
    (λ p there. (
      Contains-permutation _ ps p.0 (IsPermutation-sym ps _ olds)
          (Contains-append_left (firsts d.kept) _ p.0 (in-map (λ (q : PackageData × PackageData). q.0) d.kept p there)),
      Contains-permutation _ ps p.1 (IsPermutation-sym ps _ news)
          (Contains-append_left (seconds d.kept) _ p.1 (in-map (λ (q : PackageData × PackageData). q.1) d.kept p there)),
    )) in
    let kept : other_dependencies targets d.kept ≡ [] = none-told targets d.kept one in
    λ i. none i ++ (kept i ++ other_dependencies targets (empty.pairs i))
