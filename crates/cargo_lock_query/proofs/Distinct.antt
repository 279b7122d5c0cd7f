-- How many different ones there are in a list, from a set of them.
use Rattle.std.proofs.Common.{◌≡◌, ◌∙◌, ◌++◌, ◌||◌, ◌+◌, ◌<◌, ℕ, suc, Bool, true, false, cond, List, [], ◌∷◌, ap, get_or, length, map, refl, sym, take}
use Rattle.std.specs.BTreeSet.{BTreeSet, IsOrdered, contains}
use Rattle.std.specs.BTreeMap.{is_at}
use Rattle.std.specs.Cmp.{IsTotalOrder, on_total}
use Rattle.std.specs.declared.cmp.Ordering.{Ordering}
use Rattle.std.specs.List.{list_any}
use Rattle.std.specs.Ordering.{eq_by_cmp, on}
use Rattle.std.specs.Set.{distinct_count, is_member, unique_keys}
use Rattle.std.proofs.lemmas.Cmp.{eq_by_cmp_equiv}
use Rattle.std.proofs.lemmas.List.{take_more}
use Rattle.std.proofs.lemmas.List.Folds.{list_any-append}
use Rattle.std.proofs.lemmas.Map.Views.{btree_set_len-from_list}
use Rattle.lists.proofs.Tests.{any-map}

lengths : {X Y : Type 0} (b : Bool) (xs : List X) (x : X) (ys : List Y) (y : Y) → length xs ≡ length ys → length (cond b xs (x ∷ xs)) ≡ length (cond b ys (y ∷ ys))
lengths true xs x ys y same = same
lengths false xs x ys y same = ap suc same

-- as many keys are different as there are different values that decide whether keys are
distinct-map : {K X : Type 0} (f : K → X) (R : X → X → Ordering) (ks : List K) → distinct_count (eq_by_cmp R) (map f ks) ≡ distinct_count (eq_by_cmp (on f R)) ks
distinct-map f R [] = refl
distinct-map f R (k ∷ ks) =
    let others = unique_keys (eq_by_cmp R) (map f ks) in
    ap (λ (b : Bool). length (cond b others (f k ∷ others))) (any-map f (eq_by_cmp R (f k)) ks)
    ∙ lengths (is_member (eq_by_cmp (on f R)) ks k) others (f k) (unique_keys (eq_by_cmp (on f R)) ks) k (distinct-map f R ks)

-- a set of some keys has as many as are different
pub distinct-counted : {K X : Type 0} (f : K → X) {R : X → X → Ordering} (o : IsTotalOrder R) (ks : List K) (s : BTreeSet K)
    → ((q : K) → contains (on f R) s q ≡ is_member (eq_by_cmp (on f R)) ks q) → IsOrdered (on f R) s → length s.keys ≡ distinct_count (eq_by_cmp R) (map f ks)
distinct-counted f {R} o ks s members ordered = btree_set_len-from_list (on_total f o) ks s (members, ordered) ∙ sym (distinct-map f R ks)

either : (b a : Bool) → cond b true a ≡ (a || (b || false))
either true true = refl
either true false = refl
either false true = refl
either false false = refl

-- a set of the first keys of a list, and the next one
pub distinct-next : {K : Type 0} {R : K → K → Ordering} (o : IsTotalOrder R) (ks : List K) (i : ℕ) (k : K) (old new : BTreeSet K) → i < length ks → k ≡ get_or ks i k
    → ((q : K) → contains R new q ≡ cond (is_at (R k) q) true (contains R old q)) → ((q : K) → contains R old q ≡ is_member (eq_by_cmp R) (take i ks) q)
    → (q : K) → contains R new q ≡ is_member (eq_by_cmp R) (take (i + 1) ks) q
distinct-next {R = R} o ks i k old new low is updates before q =
    let same = eq_by_cmp R in
    updates q
    ∙ ap (λ (b : Bool). cond b true (contains R old q)) ((eq_by_cmp_equiv o).symm k q)
    ∙ ap (λ (a : Bool). cond (same q k) true a) (before q)
    ∙ either (same q k) (is_member same (take i ks) q)
    ∙ sym (list_any-append (same q) (take i ks) (k ∷ []))
    ∙ ap (list_any (same q)) (sym (take_more ks i k low ∙ ap (λ y. take i ks ++ y ∷ []) (sym is)))
