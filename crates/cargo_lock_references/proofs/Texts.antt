-- What a change of an ordered map is at the map from texts to texts.
use Rattle.std.proofs.Common.{◌≡◌, ℕ, List, [], ◌∷◌, Option, Some, None, Bool, true, false, cond, nat_cmp, refl, ap, ◌∙◌, sym}
use Rattle.std.specs.BTreeMap.{BTreeMap, UpdatesBy, is_at}
use Rattle.std.specs.Map.{lookup}
use Rattle.std.specs.Ordering.{eq_by_cmp, is_eq, is_lt}
use Rattle.std.specs.declared.cmp.Ordering.{Ordering}
use Rattle.std.specs.Cmp.{eq_by_cmp_equiv}
use Rattle.std.specs.Cmp.Lexicographic.{slice_cmp, nat_list_cmp_total}
use Rattle.std.specs.FinMap.{find, is_sorted, from_sorted, entries-from_sorted, get-from_sorted, entries, get, get-empty, insert, remove, from_entries, get-entries, get-from_entries, get-insert, get-remove, same_map, IsAntisymmetric, nat_cmp-IsAntisymmetric, slice_cmp-IsAntisymmetric}
use Rattle.cargo_lock_references.specs.Records.{Texts, texts_of}
use Rattle.std.specs.Prelude.{T}
use Rattle.std.proofs.Common.{◌&&◌, Less, arith, length}
use Rattle.std.specs.declared.cmp.Ordering.TheVariants.{Equal, Greater}
use Rattle.std.specs.Map.{keys_of}
use Rattle.std.specs.List.{AllByRecursion}
use Rattle.std.specs.List.Sorted.{IsStrictlySortedBy}
use Rattle.std.specs.FinMap.Entries.{below_all}

pub texts_tie : IsAntisymmetric (slice_cmp nat_cmp)
texts_tie = slice_cmp-IsAntisymmetric nat_cmp-IsAntisymmetric

pub same_texts : (m n : Texts) → ((q : List ℕ) → get m q ≡ get n q) → m ≡ n
same_texts m n h = same_map nat_list_cmp_total texts_tie m n h

find-lookup : {K X : Type 0} (R : K → K → Ordering) (q : K) (es : List (K × X)) → find R q es ≡ lookup (is_at (R q)) es
find-lookup R q [] = refl
find-lookup R q (e ∷ es) = ap (cond (eq_by_cmp R q e.0) (Some e.1)) (find-lookup R q es)

pub get-view : (m : BTreeMap (List ℕ) (List ℕ)) (q : List ℕ) → get (from_entries {R = slice_cmp nat_cmp} m.entries) q ≡ lookup (is_at (slice_cmp nat_cmp q)) m.entries
get-view m q = get-from_entries nat_list_cmp_total m.entries q ∙ find-lookup (slice_cmp nat_cmp) q m.entries

pub entries-back : (m : Texts) → from_entries (entries m) ≡ m
entries-back m = same_texts _ _ (λ q. get-from_entries nat_list_cmp_total (entries m) q ∙ sym (get-entries m q))

changed : (k q : List ℕ) (w : Option (List ℕ)) (o : Option (List ℕ)) → cond (is_at (slice_cmp nat_cmp k) q) w o ≡ cond (eq_by_cmp (slice_cmp nat_cmp) q k) w o
changed k q w o = ap (λ b. cond b w o) ((eq_by_cmp_equiv nat_list_cmp_total).symm k q)

pub inserted : (m n : BTreeMap (List ℕ) (List ℕ)) (k v : List ℕ) → UpdatesBy (slice_cmp nat_cmp) (slice_cmp nat_cmp k) m n (Some v) → from_entries {R = slice_cmp nat_cmp} n.entries ≡ insert (from_entries m.entries) k v
inserted m n k v h = same_texts _ _ (λ q. get-view n q ∙ h.0 q ∙ changed k q (Some v) _ ∙ ap (cond (eq_by_cmp (slice_cmp nat_cmp) q k) (Some v)) (sym (get-view m q)) ∙ sym (get-insert nat_list_cmp_total (from_entries m.entries) k v q))

pub removed : (m n : BTreeMap (List ℕ) (List ℕ)) (k : List ℕ) → UpdatesBy (slice_cmp nat_cmp) (slice_cmp nat_cmp k) m n None → from_entries {R = slice_cmp nat_cmp} n.entries ≡ remove (from_entries m.entries) k
removed m n k h = same_texts _ _ (λ q. get-view n q ∙ h.0 q ∙ changed k q None _ ∙ ap (cond (eq_by_cmp (slice_cmp nat_cmp) q k) None) (sym (get-view m q)) ∙ sym (get-remove nat_list_cmp_total (from_entries m.entries) k q))

-- ---- entries that ascend

below : (x : List ℕ) (es : List (List ℕ × List ℕ)) → AllByRecursion (λ y. slice_cmp nat_cmp x y ≡ Less) (keys_of es) → T (below_all (slice_cmp nat_cmp) x es)
below x [] h = tt
below x (e ∷ es) h = rw h.0 (below x es h.1)

both : (a b : Bool) → T a → T b → T (a && b)
both true b p q = q
both false b p q = p

sorted : (es : List (List ℕ × List ℕ)) → IsStrictlySortedBy (slice_cmp nat_cmp) (keys_of es) → T (is_sorted (slice_cmp nat_cmp) es)
unfolding IsStrictlySortedBy
sorted [] h = tt
sorted (e ∷ es) h = both _ _ (below e.0 es h.0) (sorted es h.1)

pub entries-of : (es : List (List ℕ × List ℕ)) → IsStrictlySortedBy (slice_cmp nat_cmp) (keys_of es) → entries (texts_of es) ≡ es
entries-of es h =
    let t : T (is_sorted (slice_cmp nat_cmp) es) = sorted es h in
    ap entries (same_texts (texts_of es) (from_sorted es) (λ q. get-from_entries nat_list_cmp_total es q ∙ sym (get-from_sorted (slice_cmp nat_cmp) es q t))) ∙ entries-from_sorted (slice_cmp nat_cmp) es t

pub and-first : (a b : Bool) → T (a && b) → T a
and-first true b h = tt
and-first false b h = h

pub and-second : (a b : Bool) → T (a && b) → T b
and-second true b h = h
and-second false b h = absurd h

lower-differs : (o : Ordering) → T (is_lt o) → is_eq o ≡ false
lower-differs Less h = refl
lower-differs Equal h = absurd h
lower-differs Greater h = absurd h

pub find-below : (k : List ℕ) (es : List (List ℕ × List ℕ)) → T (below_all (slice_cmp nat_cmp) k es) → find (slice_cmp nat_cmp) k es ≡ None
find-below k [] h = refl
find-below k (e ∷ es) h =
    ap (λ b. cond b (Some e.1) (find (slice_cmp nat_cmp) k es)) (lower-differs _ (and-first _ _ h)) ∙ find-below k es (and-second _ _ h)

-- ---- nothing is taken out of no pairs

none-either : (b : Bool) → (let none : Option (List ℕ) = None in cond b none none ≡ none)
none-either true = refl
none-either false = refl

no-pairs : (es : List (List ℕ × List ℕ)) → length es ≡ 0 → es ≡ []
no-pairs [] h = refl
no-pairs (e ∷ es) h = absurd (omega (arith, h))

pub remove-none : (es : List (List ℕ × List ℕ)) (k : List ℕ) → length es ≡ 0 → from_entries {R = slice_cmp nat_cmp} es ≡ remove (from_entries es) k
remove-none es k h = same_texts _ _ (λ q.
    let none : get (from_entries {R = slice_cmp nat_cmp} es) q ≡ None =
    ap (λ (ds : List (List ℕ × List ℕ)). get (from_entries {R = slice_cmp nat_cmp} ds) q) (no-pairs es h) ∙ get-empty (slice_cmp nat_cmp) q in
    none ∙ sym (none-either (eq_by_cmp (slice_cmp nat_cmp) q k)) ∙ ap (cond (eq_by_cmp (slice_cmp nat_cmp) q k) None) (sym none)
    ∙ sym (get-remove nat_list_cmp_total (from_entries es) k q))
