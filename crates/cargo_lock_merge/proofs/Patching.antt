-- The unused patches of a merge, by tests of identities.
use Rattle.std.proofs.Common.{◌≡◌, ◌↔◌, ◌⊎◌, ◌||◌, ◌<◌, ◌+◌, inl, inr, ℕ, suc, Bool, true, false, cond, List, [], ◌∷◌, get_or, length, take, refl, sym, ap, subst, ◌∙◌, true≢false, arith}
use Rattle.std.specs.Cmp.{IsEquivalence, eq_by_cmp_equiv}
use Rattle.std.specs.BTreeSet.{keys}
use Rattle.std.specs.List.{IsDistinct}
use Rattle.std.specs.List.Sorted.{IsPermutation, IsSorted}
use Rattle.std.proofs.lemmas.Bool.{or_cases, or_left, or_right}
use Rattle.std.proofs.lemmas.List.Folds.{list_any_more}
use Rattle.std.proofs.lemmas.List.Sorted.{list_any-IsPermutation}
use Rattle.std.proofs.lemmas.Map.Keys.{IsDistinct-IsPermutation, any_passes_from_place, apart_from_distinct}
use Rattle.std.proofs.lemmas.Map.Steps.{list_any_congr}
use Rattle.std.proofs.lemmas.Option.{get_or_from_slice_get, slice_get_within}
use Rattle.cargo_lock.specs.Shortest.{AreDistinct, IsAmong}
use Rattle.cargo_lock_merge.specs.declared.patches.PatchSets.{PatchSets}
use Rattle.cargo_lock_merge.specs.Order.{patch_order}
use Rattle.cargo_lock_merge.specs.Patches.{AreKept, ArePatchesOf, IsIn, IsKeptOf, has_identity}
use Rattle.cargo_lock_merge_core.specs.Rule3.{IsKept}
use Rattle.cargo_lock_parts.specs.Identity.{Identity}
use Rattle.cargo_lock_parts.specs.IdentityLaws.{identity_total, is_same_identity-Decides}
use Rattle.cargo_lock_parts.specs.IdentityOrder.{is_same_identity}

pub same-equiv : IsEquivalence is_same_identity
same-equiv = eq_by_cmp_equiv identity_total

-- ---- one more

-- a set with one more identity
pub put-more : (a b : Bool) → cond a true b ≡ (b || a)
put-more true true = refl
put-more true false = refl
put-more false true = refl
put-more false false = refl

-- the first identities and the next one
pub has-more : (xs : List Identity) (i : ℕ) (x d : Identity) → i < length xs → x ≡ get_or xs i x
    → has_identity (take (i + 1) xs) d ≡ (has_identity (take i xs) d || is_same_identity d x)
has-more xs i x d low is =
    list_any_more (is_same_identity d) xs i x low ∙ ap (λ y. has_identity (take i xs) d || is_same_identity d y) (sym is)

-- equal identities are in the same lists
pub in-same : (xs : List Identity) (d e : Identity) → is_same_identity d e ≡ true → has_identity xs d ≡ has_identity xs e
in-same xs d e same = list_any_congr same-equiv d e xs same

-- ---- what is kept

kept-as : {B O T B' O' T' : Type 0} → (B' → B) → (O → O') → (T → T') → IsKept B O T → IsKept B' O' T'
kept-as b o t (inl h) = inl (o h.0, t h.1)
kept-as b o t (inr (inl h, n)) = inr (inl (o h), λ x. n (b x))
kept-as b o t (inr (inr h, n)) = inr (inr (t h), λ x. n (b x))

kept-both : {B O T B' O' T' : Type 0} → (B ↔ B') → (O ↔ O') → (T ↔ T') → IsKept B O T ↔ IsKept B' O' T'
kept-both b o t = (kept-as b.1 o.0 t.0, kept-as b.0 o.1 t.1)

along : (a b : Bool) → a ≡ b → (a ≡ true) ↔ (b ≡ true)
along a b e = (λ h. sym e ∙ h, λ h. e ∙ h)

pub kept-same : (sets : PatchSets) (d e : Identity) → is_same_identity d e ≡ true → IsKeptOf sets d ↔ IsKeptOf sets e
kept-same sets d e same = kept-both
    (along _ _ (in-same (keys sets.base) d e same))
    (along _ _ (in-same (keys sets.ours) d e same))
    (along _ _ (in-same (keys sets.theirs) d e same))

-- a kept patch was put
pub put-kept : (sets : PatchSets) (xs ys : List Identity) (p d : Identity) → IsKeptOf sets p
    → has_identity ys d ≡ (has_identity xs d || is_same_identity d p)
    → IsIn ys d ↔ (IsIn xs d ⊎ ((is_same_identity d p ≡ true) × IsKeptOf sets d))
put-kept sets xs ys p d keep e = (to, from)
  where
    to : IsIn ys d → IsIn xs d ⊎ ((is_same_identity d p ≡ true) × IsKeptOf sets d)
    to h = elim (or_cases _ _ (sym e ∙ h)) [ inl k ↦ inl k | inr k ↦ inr (k, (kept-same sets d p k).1 keep) ]

    from : IsIn xs d ⊎ ((is_same_identity d p ≡ true) × IsKeptOf sets d) → IsIn ys d
    from (inl k) = e ∙ or_left _ _ k
    from (inr k) = e ∙ or_right _ _ k.0

-- one that is not kept was left out
pub left-out : (sets : PatchSets) (xs : List Identity) (p d : Identity) → ¬ IsKeptOf sets p
    → IsIn xs d ↔ (IsIn xs d ⊎ ((is_same_identity d p ≡ true) × IsKeptOf sets d))
left-out sets xs p d not = (λ h. inl h, from)
  where
    from : IsIn xs d ⊎ ((is_same_identity d p ≡ true) × IsKeptOf sets d) → IsIn xs d
    from (inl k) = k
    from (inr k) = absurd (not ((kept-same sets d p k.0).0 k.1))

-- one more of the patches
pub put-next : (K : Type 0) (old now next : Type 0) (a b c : Bool) → c ≡ (a || b)
    → now ↔ (old ⊎ ((a ≡ true) × K)) → next ↔ (now ⊎ ((b ≡ true) × K)) → next ↔ (old ⊎ ((c ≡ true) × K))
put-next K old now next a b c e one two = (to, from)
  where
    earlier : old ⊎ ((a ≡ true) × K) → old ⊎ ((c ≡ true) × K)
    earlier (inl h) = inl h
    earlier (inr h) = inr (e ∙ or_left a b h.0, h.1)

    to : next → old ⊎ ((c ≡ true) × K)
    to h = elim (two.0 h) [ inl k ↦ earlier (one.0 k) | inr k ↦ inr (e ∙ or_right a b k.0, k.1) ]

    from : old ⊎ ((c ≡ true) × K) → next
    from (inl h) = two.1 (inl (one.1 (inl h)))
    from (inr h) = elim (or_cases a b (sym e ∙ h.0)) [ inl k ↦ two.1 (inl (one.1 (inr (k, h.1)))) | inr k ↦ two.1 (inr (k, h.1)) ]

-- the patches of both sides were put into an empty set
pub kept-are : (b o t : List Identity) (sets : PatchSets) (none one two : List Identity) → none ≡ []
    → ((d : Identity) → has_identity (keys sets.base) d ≡ has_identity b d)
    → ((d : Identity) → has_identity (keys sets.ours) d ≡ has_identity o d)
    → ((d : Identity) → has_identity (keys sets.theirs) d ≡ has_identity t d)
    → ((d : Identity) → IsIn one d ↔ (IsIn none d ⊎ (IsIn o d × IsKeptOf sets d)))
    → ((d : Identity) → IsIn two d ↔ (IsIn one d ⊎ (IsIn t d × IsKeptOf sets d)))
    → (d : Identity) → IsIn two d ↔ IsKept (IsIn b d) (IsIn o d) (IsIn t d)
kept-are b o t sets none one two empty hb ho ht first second d = (to, from)
  where
    same : IsKeptOf sets d ↔ IsKept (IsIn b d) (IsIn o d) (IsIn t d)
    same = kept-both (along _ _ (hb d)) (along _ _ (ho d)) (along _ _ (ht d))

    not_in : ¬ IsIn none d
    not_in h = true≢false (sym h ∙ ap (λ xs. has_identity xs d) empty)

    to : IsIn two d → IsKept (IsIn b d) (IsIn o d) (IsIn t d)
    to h = elim ((second d).0 h) [
      | inl k ↦ elim ((first d).0 k) [ inl n ↦ absurd (not_in n) | inr m ↦ same.0 m.1 ]
      | inr k ↦ same.0 k.1
    ]

    of_ours : IsIn o d → IsKept (IsIn b d) (IsIn o d) (IsIn t d) → IsIn two d
    of_ours h k = (second d).1 (inl ((first d).1 (inr (h, same.1 k))))

    of_theirs : IsIn t d → IsKept (IsIn b d) (IsIn o d) (IsIn t d) → IsIn two d
    of_theirs h k = (second d).1 (inr (h, same.1 k))

    from : IsKept (IsIn b d) (IsIn o d) (IsIn t d) → IsIn two d
    from (inl h) = of_ours h.0 (inl h)
    from (inr (inl h, n)) = of_ours h (inr (inl h, n))
    from (inr (inr h, n)) = of_theirs h (inr (inr h, n))

-- ---- in another order, and by places

pub kept-permutation : (b o t m n : List Identity) → IsPermutation m n → AreKept b o t m → AreKept b o t n
kept-permutation b o t m n moved h = record {
  kept = λ d. let e = list_any-IsPermutation (is_same_identity d) m n moved in (λ k. (h.kept d).0 (e ∙ k), λ k. sym e ∙ (h.kept d).1 k);
  once = IsDistinct-IsPermutation is_same_identity same-equiv.symm m n moved h.once;
}

among-in : (xs : List Identity) (d : Identity) → IsAmong xs d → IsIn xs d
among-in xs d (k, i, at, same) = any_passes_from_place (is_same_identity d) xs k i at ((is_same_identity-Decides d i).1 (sym same))

in-among : (xs : List Identity) (d : Identity) → IsIn xs d → IsAmong xs d
in-among [] d h = absurd (true≢false (sym h))
in-among (x ∷ xs) d h = elim (or_cases (is_same_identity d x) (has_identity xs d) h) [
  | inl e ↦ (0, x, refl, sym ((is_same_identity-Decides d x).0 e))
  | inr e ↦ let (k, i, at, same) = in-among xs d e in (suc k, i, at, same)
]

in-both : (xs : List Identity) (d : Identity) → IsIn xs d ↔ IsAmong xs d
in-both xs d = (in-among xs d, among-in xs d)

distinct-places : (xs : List Identity) → IsDistinct is_same_identity xs → AreDistinct xs
distinct-places xs once j k x y at_j at_k same =
    let low : j < length xs = slice_get_within xs j x at_j in
    let high : k < length xs = slice_get_within xs k y at_k in
    let xj : get_or xs j x ≡ x = get_or_from_slice_get xs j x x at_j in
    let xk : get_or xs k x ≡ y = get_or_from_slice_get xs k y x at_k in
    let eq : is_same_identity x y ≡ true = (is_same_identity-Decides x y).1 same in
    let qe : is_same_identity y x ≡ true = (is_same_identity-Decides y x).1 (sym same) in
    let before : j < k → ⊥ = λ h. true≢false (sym eq ∙ sym (ap (λ (z : Identity). is_same_identity z y) xj) ∙ sym (ap (λ (z : Identity). is_same_identity (get_or xs j x) z) xk) ∙ apart_from_distinct is_same_identity xs j k x once h high) in
    let after : k < j → ⊥ = λ h. true≢false (sym qe ∙ sym (ap (λ (z : Identity). is_same_identity z x) xk) ∙ sym (ap (λ (z : Identity). is_same_identity (get_or xs k x) z) xj) ∙ apart_from_distinct is_same_identity xs k j x once h low) in
    omega (arith, before, after)

-- the patches that are kept are those of the merge
pub kept-patches : (b o t m : List Identity) → IsSorted patch_order m → AreKept b o t m → ArePatchesOf b o t m
kept-patches b o t m sorted h = record {
  kept = λ d.
      let same = kept-both (in-both b d) (in-both o d) (in-both t d) in
      (λ k. same.0 ((h.kept d).0 (among-in m d k)), λ k. in-among m d ((h.kept d).1 (same.1 k)));
  once = distinct-places m h.once;
  order = sorted;
}

-- equal lists have the same merge
pub patches-along : (b o t c p u m : List Identity) → b ≡ c → o ≡ p → t ≡ u → ArePatchesOf b o t m → ArePatchesOf c p u m
patches-along b o t c p u m e f g h =
    subst (λ (xs : List Identity). ArePatchesOf xs p u m) e
    (subst (λ (xs : List Identity). ArePatchesOf b xs u m) f (subst (λ (xs : List Identity). ArePatchesOf b o xs m) g h))
