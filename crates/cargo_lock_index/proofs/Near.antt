-- What is found in entries in order, and that it is what the list has.
use Rattle.std.proofs.Common.{◌≡◌, inl, inr, ◌<◌, ◌≤◌, ◌+◌, ℕ, List, [], ◌∷◌, ◌++◌, suc, zero, Option, Some, None, Bool, true, false, ◌&&◌, not, cond, if◌then◌else◌, map, take, drop, get_or, length, slice_get, slice_index_or, nat_eq, refl, ap, ◌∙◌, sym, arith}
use Rattle.std.specs.List.{AllAdjacentBelow, AllWithin, All, filter, count_by}
use Rattle.std.specs.List.Sorted.{IsPartitionedBy, IsSorted, IsStable, ties}
use Rattle.std.specs.Ordering.{as_partial_cmp, is_le, is_lt, is_eq, nat_cmp, ordering_reverse, ordering_then, partial_le}
use Rattle.std.specs.declared.cmp.Ordering.{Ordering}
use Rattle.std.specs.declared.cmp.Ordering.TheVariants.{Less, Equal, Greater}
use Rattle.std.specs.Cmp.{IsStrictWeakOrder, Equal-is, nat_cmp_total, tied_itself}
use Rattle.std.proofs.lemmas.Bool.{cases_Bool, false≢true}
use Rattle.std.proofs.lemmas.Bool.Decides.{nat_tests}
use Rattle.std.specs.Option.{option_or}
use Rattle.std.proofs.lemmas.Option.{slice_get-get_or}
use Rattle.std.proofs.lemmas.List.{take_more, get_or-drop, get_or-take, take-append-drop, length-take, length-drop}
use Rattle.std.proofs.lemmas.List.Elements.{All-head, All-tail, at_read, filter-append}
use Rattle.std.proofs.lemmas.List.Sorted.{ranks_by, sorted_far}
use Rattle.std.proofs.lemmas.List.Sums.{length-filter, sum_by-cons}
use Rattle.cargo_lock_parts.specs.PartialIdentity.{PartialIdentity, PartialKey, partial_identity_cmp, is_same_partial_identity, is_same_partial_identity-Decides}
use Rattle.cargo_lock_index.specs.Near.{Placed, IsIndexOf, beginning, near_cmp, near_total, entry_cmp, entry_total, is_same_entry, has_key, placed_from, first_from, first_place, last_from, last_place, is_only, passes, place_before, place_if, tail_place}

-- ---- the order

abbrev less : Placed → Placed → Bool
less a b = is_lt (entry_cmp a b)

weak : IsStrictWeakOrder less
weak = ranks_by near_total (λ (e : Placed). e.key)

tied-middle : (r s : Ordering) → s ≡ ordering_reverse r → is_lt s ≡ false → is_lt r ≡ false → is_eq r ≡ true
tied-middle Less s e hs hr = absurd (false≢true (sym hr))
tied-middle Equal s e hs hr = refl
tied-middle Greater s e hs hr = absurd (false≢true (sym hs ∙ ap is_lt e))

-- what ties with a later one, and is not above this one, ties with this one
pinned : (q a b : Placed) → less b a ≡ false → less a q ≡ false → is_same_entry q b ≡ true → is_same_entry q a ≡ true
pinned q a b up above same =
    let e : entry_cmp q b ≡ Equal = (Equal-is (entry_cmp q b)).0 same in
    let c : entry_cmp q a ≡ entry_cmp b a = entry_total.congr q b a e in
    tied-middle (entry_cmp q a) (entry_cmp a q) (entry_total.antisymm a q) above (ap is_lt c ∙ up)

pinned-not : (q a b : Placed) → less b a ≡ false → less a q ≡ false → is_same_entry q a ≡ false → is_same_entry q b ≡ false
pinned-not q a b up above other = elim (cases_Bool (is_same_entry q b)) [
  | inl t ↦ absurd (false≢true (sym other ∙ pinned q a b up above t))
  | inr f ↦ f
]

-- what is less does not tie
less-other : (r s : Ordering) → r ≡ ordering_reverse s → is_lt s ≡ true → is_eq r ≡ false
less-other r Less e h = ap is_eq e
less-other r Equal e h = absurd (false≢true h)
less-other r Greater e h = absurd (false≢true h)

below-other : (q e : Placed) → less e q ≡ true → is_same_entry q e ≡ false
below-other q e h = less-other (entry_cmp q e) (entry_cmp e q) (entry_total.antisymm q e) h

-- ---- what is filtered

pub filter-none : (p : Placed → Bool) (es : List Placed) → All (λ e. p e ≡ false) es → filter p es ≡ []
filter-none p [] h = refl
filter-none p (e ∷ es) h =
    ap (λ b. cond b (e ∷ filter p es) (filter p es)) (All-head (λ x. p x ≡ false) e es h)
    ∙ filter-none p es (All-tail (λ x. p x ≡ false) e es h)

pub filter-drop : (p : Placed → Bool) (es : List Placed) (n : ℕ) → n ≤ length es → AllWithin (λ e. p e ≡ false) es 0 n
    → filter p es ≡ filter p (drop n es)
filter-drop p es n h none =
    let front : All (λ (e : Placed). p e ≡ false) (take n es) = λ k d below.
    let under : k < n = omega (arith, length-take n es, below) in
    rw get_or-take (none k d (omega arith) under) in
    ap (filter p) (sym (take-append-drop n es))
    ∙ filter-append p (take n es) (drop n es)
    ∙ ap (λ l. l ++ filter p (drop n es)) (filter-none p (take n es) front)

-- each entry is at most each later one
abbrev Chain : List Placed → Type 0
Chain [] = Unit {0}
Chain (e ∷ es) = All (λ f. less f e ≡ false) es × Chain es

chain-of : (es : List Placed) → ((i j : ℕ) (d : Placed) → i ≤ j → j < length es → less (get_or es j d) (get_or es i d) ≡ false) → Chain es
chain-of [] far = tt
chain-of (e ∷ es) far = (
  λ k d h. far 0 (suc k) d (omega arith) (omega (arith, h)),
  chain-of es (λ i j d le h. far (suc i) (suc j) d (omega arith) (omega (arith, h))),
)

chain-drop : (n : ℕ) (es : List Placed) → Chain es → Chain (drop n es)
chain-drop zero es c = c
chain-drop (suc n) [] c = tt
chain-drop (suc n) (e ∷ es) c = chain-drop n es c.1

rest-none : (q e : Placed) (es : List Placed) → less e q ≡ false → is_same_entry q e ≡ false → All (λ f. less f e ≡ false) es
    → filter (is_same_entry q) es ≡ []
rest-none q e es above other later =
    filter-none (is_same_entry q) es (λ k d h. pinned-not q e (get_or es k d) (later k d h) above other)

-- the place of the first entry
abbrev pub head_place : List Placed → Option ℕ
head_place [] = None
head_place (e ∷ es) = Some e.place

one-head : (b : Bool) (e : Placed) (rest : List Placed) → (b ≡ false → rest ≡ [])
    → head_place (cond b (e ∷ rest) rest) ≡ (if b then Some e.place else None)
one-head true e rest h = refl
one-head false e rest h = ap head_place (h refl)

head-at : (q : Placed) (es : List Placed) → Chain es → All (λ e. less e q ≡ false) es
    → head_place (filter (is_same_entry q) es) ≡ place_if (is_same_entry q) (slice_get es 0)
head-at q [] c above = refl
head-at q (e ∷ es) c above =
    one-head (is_same_entry q e) e (filter (is_same_entry q) es)
    (λ other. rest-none q e es (All-head (λ f. less f q ≡ false) e es above) other c.0)

zero-more : (n : ℕ) → nat_eq (suc n) 0 ≡ false
zero-more n = grind (arith, nat_tests)

one-more : (n : ℕ) → nat_eq (suc n) 1 ≡ nat_eq n 0
one-more n = grind (arith, nat_tests)

one-none : (b : Bool) (e : Placed) (rest : List Placed) → (b ≡ false → rest ≡ []) → nat_eq (length (cond b (e ∷ rest) rest)) 0 ≡ not b
one-none true e rest h = zero-more (length rest)
one-none false e rest h = ap (λ l. nat_eq (length l) 0) (h refl)

none-at : (q : Placed) (es : List Placed) → Chain es → All (λ e. less e q ≡ false) es
    → nat_eq (length (filter (is_same_entry q) es)) 0 ≡ not (passes (is_same_entry q) (slice_get es 0))
none-at q [] c above = refl
none-at q (e ∷ es) c above =
    one-none (is_same_entry q e) e (filter (is_same_entry q) es)
    (λ other. rest-none q e es (All-head (λ f. less f q ≡ false) e es above) other c.0)

one-only : (b c : Bool) (e : Placed) (rest : List Placed) → (b ≡ false → rest ≡ []) → nat_eq (length rest) 0 ≡ not c
    → nat_eq (length (cond b (e ∷ rest) rest)) 1 ≡ (b && not c)
one-only true c e rest h none = one-more (length rest) ∙ none
one-only false c e rest h none = ap (λ l. nat_eq (length l) 1) (h refl)

only-at : (q : Placed) (es : List Placed) → Chain es → All (λ e. less e q ≡ false) es
    → nat_eq (length (filter (is_same_entry q) es)) 1 ≡ (passes (is_same_entry q) (slice_get es 0) && not (passes (is_same_entry q) (slice_get es 1)))
only-at q [] c above = refl
only-at q (e ∷ es) c above =
    one-only (is_same_entry q e) (passes (is_same_entry q) (slice_get es 0)) e (filter (is_same_entry q) es)
    (λ other. rest-none q e es (All-head (λ f. less f q ≡ false) e es above) other c.0)
    (none-at q es c.1 (All-tail (λ f. less f q ≡ false) e es above))

get-drop : (es : List Placed) (n k : ℕ) → slice_get (drop n es) k ≡ slice_get es (n + k)
get-drop es zero k = (let e : k ≡ 0 + k = omega arith in ap (slice_get es) e)
get-drop [] (suc n) k = refl
get-drop (e ∷ es) (suc n) k = get-drop es n k ∙ (let s : suc (n + k) ≡ suc n + k = omega arith in ap (slice_get (e ∷ es)) s)

-- ---- the entries of a list

-- the number changes no tie
then-other : (c r : Ordering) → is_eq r ≡ false → is_eq (ordering_then c r) ≡ false
then-other Less r h = refl
then-other Equal r h = h
then-other Greater r h = refl

pub near-same : (k j : PartialIdentity) → is_eq (near_cmp k j) ≡ is_same_partial_identity k j
near-same k j = elim (cases_Bool (is_same_partial_identity k j)) [
  | inl t ↦
      let names : k.name ≡ j.name = ap (λ (p : PartialKey). p.name) ((is_same_partial_identity-Decides k j).0 t) in
      let level : nat_cmp (beginning k.name) (beginning j.name) ≡ Equal =
      ap (λ n. nat_cmp (beginning k.name) (beginning n)) (sym names) ∙ tied_itself nat_cmp_total (beginning k.name) in
      ap (λ o. is_eq (ordering_then o (partial_identity_cmp k j))) level
  | inr f ↦ then-other (nat_cmp (beginning k.name) (beginning j.name)) (partial_identity_cmp k j) f ∙ sym f
]

same-is : (key : PartialIdentity) (q : Placed) → q.key ≡ key → is_same_entry q ≡ has_key key
same-is key q e = ap (λ (k : PartialIdentity). λ (f : Placed). is_eq (near_cmp k f.key)) e ∙ (λ i f. near-same key f.key i)

tie-is : (r s : Ordering) → s ≡ ordering_reverse r → (not (is_lt r) && not (is_lt s)) ≡ is_eq r
tie-is Less s e = refl
tie-is Equal s e = ap (λ o. not (is_lt o)) e
tie-is Greater s e = ap (λ o. not (is_lt o)) e

not-above : (r s : Ordering) → s ≡ ordering_reverse r → is_le r ≡ true → is_lt s ≡ false
not-above Less s e h = ap is_lt e
not-above Equal s e h = ap is_lt e
not-above Greater s e h = absurd (false≢true h)

-- entries none of which is above the next one are sorted
pub sorted_from : (es : List Placed) → AllAdjacentBelow (λ x y. partial_le (as_partial_cmp entry_cmp) x y ≡ true) es (length es) → IsSorted entry_cmp es
sorted_from es h k d low high =
    let a : Placed = slice_index_or es k d in
    let b : Placed = slice_index_or es (k + 1) d in
    not-above (entry_cmp a b) (entry_cmp b a) (entry_total.antisymm b a) (h k d high)

pub index-of : (keys : List PartialIdentity) (es fs : List Placed) → es ≡ placed_from 0 keys → IsStable entry_cmp es fs → IsIndexOf keys fs
index-of keys es fs is stable key =
    let q : Placed = record { key = key; place = 0 } in
    let same : ties less q ≡ has_key key = (λ i f. tie-is (entry_cmp q f) (entry_cmp f q) (entry_total.antisymm f q) i) ∙ same-is key q refl in
    ap (λ t. filter t fs) (sym same) ∙ stable q ∙ ap (λ t. filter t es) same ∙ ap (filter (has_key key)) is

one-first : (b : Bool) (e : Placed) (rest : List Placed) (o : Option ℕ) → o ≡ head_place rest
    → (if b then Some e.place else o) ≡ head_place (cond b (e ∷ rest) rest)
one-first true e rest o h = refl
one-first false e rest o h = h

first-head : (p : PartialIdentity → Bool) (i : ℕ) (keys : List PartialIdentity) → first_from p i keys ≡ head_place (filter (λ e. p e.key) (placed_from i keys))
first-head p i [] = refl
first-head p i (k ∷ keys) =
    one-first (p k) (record { key = k; place = i }) (filter (λ e. p e.key) (placed_from (i + 1) keys)) (first_from p (i + 1) keys) (first-head p (i + 1) keys)

count-placed : (p : PartialIdentity → Bool) (i : ℕ) (keys : List PartialIdentity) → count_by (λ (e : Placed). p e.key) (placed_from i keys) ≡ count_by p keys
count-placed p i [] = refl
count-placed p i (k ∷ keys) =
    let e : Placed = record { key = k; place = i } in
    sum_by-cons (λ (f : Placed). cond (p f.key) 1 0) e (placed_from (i + 1) keys)
    ∙ ap (λ n. cond (p k) 1 0 + n) (count-placed p (i + 1) keys)
    ∙ sym (sum_by-cons (λ x. cond (p x) 1 0) k keys)

-- ---- what is found

pub found-first : (keys : List PartialIdentity) (key : PartialIdentity) (es : List Placed) (q : Placed) (n : ℕ) (r : Option ℕ)
    → q ≡ record { key = key; place = 0 } → IsSorted entry_cmp es → n ≤ length es
    → AllWithin (λ e. is_lt (entry_cmp e q) ≡ true) es 0 n → AllWithin (λ e. is_lt (entry_cmp e q) ≡ false) es n (length es)
    → r ≡ place_if (is_same_entry q) (slice_get es n) → IsIndexOf keys es → r ≡ first_place key keys
found-first keys key es q n r sought up within before after is index =
    let chain : Chain (drop n es) = chain-drop n es (chain-of es (sorted_far less weak es up)) in
    let above : All (λ (e : Placed). less e q ≡ false) (drop n es) = λ k d h. rw get_or-drop (after (n + k) d (omega arith) (omega (arith, h, length-drop n es))) in
    let skip : filter (is_same_entry q) es ≡ filter (is_same_entry q) (drop n es) =
    filter-drop (is_same_entry q) es n within (λ k d low high. below-other q (get_or es k d) (before k d low high)) in
    let here : slice_get (drop n es) 0 ≡ slice_get es n = get-drop es n 0 ∙ (let z : n + 0 ≡ n = omega arith in ap (slice_get es) z) in
    is ∙ ap (place_if (is_same_entry q)) (sym here)
    ∙ sym (head-at q (drop n es) chain above)
    ∙ ap head_place (sym skip)
    ∙ ap (λ t. head_place (filter t es)) (same-is key q (ap (λ (e : Placed). e.key) sought))
    ∙ ap head_place (index key)
    ∙ sym (first-head (is_same_partial_identity key) 0 keys)

pub found-only : (keys : List PartialIdentity) (key : PartialIdentity) (es : List Placed) (q : Placed) (n : ℕ) (r : Bool)
    → q ≡ record { key = key; place = 0 } → IsSorted entry_cmp es → n ≤ length es
    → AllWithin (λ e. is_lt (entry_cmp e q) ≡ true) es 0 n → AllWithin (λ e. is_lt (entry_cmp e q) ≡ false) es n (length es)
    → r ≡ (passes (is_same_entry q) (slice_get es n) && not (passes (is_same_entry q) (slice_get es (n + 1)))) → IsIndexOf keys es → r ≡ is_only key keys
found-only keys key es q n r sought up within before after is index =
    let chain : Chain (drop n es) = chain-drop n es (chain-of es (sorted_far less weak es up)) in
    let above : All (λ (e : Placed). less e q ≡ false) (drop n es) = λ k d h. rw get_or-drop (after (n + k) d (omega arith) (omega (arith, h, length-drop n es))) in
    let skip : filter (is_same_entry q) es ≡ filter (is_same_entry q) (drop n es) =
    filter-drop (is_same_entry q) es n within (λ k d low high. below-other q (get_or es k d) (before k d low high)) in
    let here : slice_get (drop n es) 0 ≡ slice_get es n = get-drop es n 0 ∙ (let z : n + 0 ≡ n = omega arith in ap (slice_get es) z) in
    is ∙ ap (λ o. passes (is_same_entry q) o && not (passes (is_same_entry q) (slice_get es (n + 1)))) (sym here)
    ∙ ap (λ o. passes (is_same_entry q) (slice_get (drop n es) 0) && not (passes (is_same_entry q) o)) (sym (get-drop es n 1))
    ∙ sym (only-at q (drop n es) chain above)
    ∙ ap (λ l. nat_eq (length l) 1) (sym skip)
    ∙ ap (λ t. nat_eq (length (filter t es)) 1) (same-is key q (ap (λ (e : Placed). e.key) sought))
    ∙ ap (λ l. nat_eq (length l) 1) (index key)
    ∙ ap (λ m. nat_eq m 1) (length-filter (has_key key) (placed_from 0 keys) ∙ count-placed (is_same_partial_identity key) 0 keys)

-- ---- the last

append-nil : (es : List Placed) → es ++ [] ≡ es
append-nil [] = refl
append-nil (e ∷ es) = ap (λ l. e ∷ l) (append-nil es)

-- an element in range is the same whatever the default
get_or-any : (es : List Placed) (m : ℕ) (d f : Placed) → m < length es → get_or es m d ≡ get_or es m f
get_or-any es m d f h = (let e : Some (get_or es m d) ≡ Some (get_or es m f) = sym (slice_get-get_or es m d h) ∙ slice_get-get_or es m f h in cc)

pub not-true : (b : Bool) → not b ≡ true → b ≡ false
not-true true h = absurd (false≢true h)
not-true false h = refl

pub not-false : (b : Bool) → not b ≡ false → b ≡ true
not-false true h = refl
not-false false h = absurd (false≢true (sym h))

-- what is not above a later one is not above this one
pub parted-upto : (es : List Placed) (q : Placed) → IsSorted entry_cmp es → IsPartitionedBy (λ e. not (is_lt (entry_cmp q e))) es
parted-upto es q up i j d le below h =
    ap not (weak.chain q (get_or es j d) (get_or es i d) (not-true (less q (get_or es j d)) h) (sorted_far less weak es up i j d le below))

-- what ties with an earlier one, and is not below this one, ties with this one
pinned-up : (q a b : Placed) → less b a ≡ false → less q b ≡ false → is_same_entry q a ≡ true → is_same_entry q b ≡ true
pinned-up q a b up above same =
    let e : entry_cmp q a ≡ Equal = (Equal-is (entry_cmp q a)).0 same in
    let c : entry_cmp q b ≡ entry_cmp a b = entry_total.congr q a b e in
    tied-middle (entry_cmp q b) (entry_cmp b a) (entry_total.antisymm b a ∙ ap ordering_reverse (sym c)) up above

pinned-up-not : (q a b : Placed) → less b a ≡ false → less q b ≡ false → is_same_entry q b ≡ false → is_same_entry q a ≡ false
pinned-up-not q a b up above other = elim (cases_Bool (is_same_entry q a)) [
  | inl t ↦ absurd (false≢true (sym other ∙ pinned-up q a b up above t))
  | inr f ↦ f
]

above-other : (r : Ordering) → is_lt r ≡ true → is_eq r ≡ false
above-other Less h = refl
above-other Equal h = absurd (false≢true h)
above-other Greater h = refl

or-some : (o : Option ℕ) (n : ℕ) → o ≡ Some n → (m : ℕ) → option_or o (Some m) ≡ Some n
or-some o n h m = ap (λ z. option_or z (Some m)) h

tail-push : (es : List Placed) (e : Placed) → tail_place (es ++ e ∷ []) ≡ Some e.place
tail-push [] e = refl
tail-push (f ∷ es) e = or-some (tail_place (es ++ e ∷ [])) e.place (tail-push es e) f.place

one-last : (b : Bool) (es : List Placed) (e : Placed) → (b ≡ false → es ≡ []) → tail_place (es ++ cond b (e ∷ []) []) ≡ (if b then Some e.place else None)
one-last true es e h = tail-push es e
one-last false es e h = ap (λ l. tail_place (l ++ [])) (h refl)

or-none : (o : Option ℕ) → option_or o None ≡ o
or-none None = refl
or-none (Some n) = refl

one-tail : (b : Bool) (e : Placed) (rest : List Placed) (o : Option ℕ) → o ≡ tail_place rest
    → option_or o (if b then Some e.place else None) ≡ tail_place (cond b (e ∷ rest) rest)
one-tail true e rest o h = ap (λ z. option_or z (Some e.place)) h
one-tail false e rest o h = or-none o ∙ h

pub last-tail : (p : PartialIdentity → Bool) (i : ℕ) (keys : List PartialIdentity) → last_from p i keys ≡ tail_place (filter (λ e. p e.key) (placed_from i keys))
last-tail p i [] = refl
last-tail p i (k ∷ keys) =
    one-tail (p k) (record { key = k; place = i }) (filter (λ e. p e.key) (placed_from (i + 1) keys)) (last_from p (i + 1) keys) (last-tail p (i + 1) keys)

pub filter-take : (p : Placed → Bool) (es : List Placed) (n : ℕ) → n ≤ length es → AllWithin (λ e. p e ≡ false) es n (length es)
    → filter p es ≡ filter p (take n es)
filter-take p es n h none =
    let back : All (λ (e : Placed). p e ≡ false) (drop n es) = λ k d below. rw get_or-drop (none (n + k) d (omega arith) (omega (arith, below, length-drop n es))) in
    ap (filter p) (sym (take-append-drop n es))
    ∙ filter-append p (take n es) (drop n es)
    ∙ ap (λ l. filter p (take n es) ++ l) (filter-none p (drop n es) back)
    ∙ append-nil (filter p (take n es))

last-at : (q : Placed) (es : List Placed) (n : ℕ) → IsSorted entry_cmp es → n ≤ length es → AllWithin (λ e. less q e ≡ false) es 0 n
    → tail_place (filter (is_same_entry q) (take n es)) ≡ place_before (is_same_entry q) es n
last-at q es zero up h before = refl
last-at q es (suc m) up h before =
    let in' : m < length es = omega (arith, h) in
    let e : Placed = get_or es m q in
    let fit : take (suc m) es ≡ take m es ++ e ∷ [] = (let s : suc m ≡ m + 1 = omega arith in ap (λ n. take n es) s) ∙ take_more es m q in' in
    let one : place_if (is_same_entry q) (slice_get es m) ≡ (if is_same_entry q e then Some e.place else None) = ap (place_if (is_same_entry q)) (slice_get-get_or es m q in') in
    let first : is_same_entry q e ≡ false → filter (is_same_entry q) (take m es) ≡ [] = λ other. filter-none (is_same_entry q) (take m es)
    (λ k d below. let under : k < m = omega (arith, length-take m es, below) in
    rw get_or-take (pinned-up-not q (get_or es k d) (get_or es m d) (sorted_far less weak es up k m d (omega arith) in') (before m d (omega arith) (omega arith))
    (at_read es (λ f. is_same_entry q f ≡ false) m e in' (get_or-any es m q e in') other d))) in
    ap (λ l. tail_place (filter (is_same_entry q) l)) fit
    ∙ ap tail_place (filter-append (is_same_entry q) (take m es) (e ∷ []))
    ∙ one-last (is_same_entry q e) (filter (is_same_entry q) (take m es)) e first
    ∙ sym one

pub found-last : (keys : List PartialIdentity) (key : PartialIdentity) (es : List Placed) (q : Placed) (n : ℕ) (r : Option ℕ)
    → q ≡ record { key = key; place = 0 } → IsSorted entry_cmp es → n ≤ length es
    → AllWithin (λ e. is_lt (entry_cmp q e) ≡ false) es 0 n → AllWithin (λ e. is_lt (entry_cmp q e) ≡ true) es n (length es)
    → r ≡ place_before (is_same_entry q) es n → IsIndexOf keys es → r ≡ last_place key keys
found-last keys key es q n r sought up within before after is index =
    let cut : filter (is_same_entry q) es ≡ filter (is_same_entry q) (take n es) =
    filter-take (is_same_entry q) es n within (λ k d low high. above-other (entry_cmp q (get_or es k d)) (after k d low high)) in
    is ∙ sym (last-at q es n up within before)
    ∙ ap tail_place (sym cut)
    ∙ ap (λ t. tail_place (filter t es)) (same-is key q (ap (λ (e : Placed). e.key) sought))
    ∙ ap tail_place (index key)
    ∙ sym (last-tail (is_same_partial_identity key) 0 keys)

-- ---- one more key

placed-more : (i : ℕ) (keys : List PartialIdentity) (e : Placed) → e.place ≡ i + length keys → placed_from i (keys ++ e.key ∷ []) ≡ placed_from i keys ++ e ∷ []
placed-more i [] e h =
    let z : i ≡ e.place = omega arith in
    ap (λ n. record { key = e.key; place = n } ∷ []) z
placed-more i (k ∷ keys) e h =
    ap (λ (l : List Placed). record { key = k; place = i } ∷ l) (placed-more (i + 1) keys e (omega (arith, h)))

map-push : (es : List Placed) (e : Placed) → map (λ (f : Placed). f.key) (es ++ e ∷ []) ≡ map (λ (f : Placed). f.key) es ++ e.key ∷ []
map-push [] e = refl
map-push (f ∷ es) e = ap (λ l. f.key ∷ l) (map-push es e)

map-length : (es : List Placed) → length (map (λ (f : Placed). f.key) es) ≡ length es
map-length [] = refl
map-length (f ∷ es) = ap suc (map-length es)

pub keys-more : (es fs : List Placed) (e : Placed) → es ≡ placed_from 0 (map (λ (f : Placed). f.key) es) → e.place ≡ length es → fs ≡ es ++ e ∷ []
    → fs ≡ placed_from 0 (map (λ (f : Placed). f.key) fs)
keys-more es fs e is at more =
    let place : e.place ≡ 0 + length (map (λ (f : Placed). f.key) es) = omega (arith, at, map-length es) in
    more ∙ ap (λ l. l ++ e ∷ []) is ∙ sym (placed-more 0 (map (λ (f : Placed). f.key) es) e place)
    ∙ ap (placed_from 0) (sym (map-push es e))
    ∙ ap (λ (l : List Placed). placed_from 0 (map (λ (f : Placed). f.key) l)) (sym more)
