-- How dependencies are looked up by the pairs of a difference.
use Rattle.std.proofs.Common.{◌≡◌, ℕ, suc, zero, ◌+◌, ◌<◌, ◌≤◌, Bool, true, false, not, cond, List, [], ◌∷◌, ◌++◌, ◌⊎◌, inl, inr, length, get_or, drop, take, refl, ap, sym, ◌∙◌, arith, map, IsPermutation, IsSorted}
use Rattle.std.specs.Prelude.{◌&&◌, ◌||◌}
use Rattle.std.specs.Borrow.{Bor}
use Rattle.std.specs.Cmp.{Equal-is}
use Rattle.std.specs.declared.cmp.Ordering.{Ordering}
use Rattle.std.specs.declared.cmp.Ordering.TheVariants.{Less, Equal, Greater}
use Rattle.std.specs.List.{dedup, dedup_from, filter, list_any, take_while}
use Rattle.std.specs.List.Sorted.{IsNonDecreasingBy, IsPartitionPoint, IsPartitionedBy, IsSortedBy, IsStrictlySortedBy}
use Rattle.std.specs.Ordering.{is_eq, is_lt, ordering_index, ordering_reverse, ordering_then}
use Rattle.std.proofs.lemmas.Bool.{cases_order}
use Rattle.std.proofs.lemmas.List.{get_or-drop, length-drop, length-map, map-append}
use Rattle.std.proofs.lemmas.List.Elements.{All-map, Contains-get_or, filter-append}
use Rattle.std.proofs.lemmas.List.Folds.{list_any_none}
use Rattle.std.proofs.lemmas.List.Sorted.{IsNonDecreasingBy-drop, list_any-IsPermutation, searchable_from_sorted}
use Rattle.std.proofs.lemmas.List.Sums.{take_while-cons}
use Rattle.std.proofs.lemmas.Map.Keys.{Less-from_sorted}
use Rattle.cargo_lock_parts.specs.Identity.{Identity, PackageData, identity_of}
use Rattle.cargo_lock_diff.specs.Change.{OtherDependencies, dependency_change_of, other_dependencies}
use Rattle.cargo_lock_diff.specs.Dependencies.{are_one, are_targets, have_other_dependencies, is_carried, is_carried_either, is_met, is_target, only_in}
use Rattle.cargo_lock_diff.specs.Difference.{dependencies_at, referred_pairs}
use Rattle.cargo_lock_diff.specs.Pairing.{exchanged_pair}
use Rattle.cargo_lock_diff.specs.Place.{target_cmp}
use Rattle.cargo_lock_diff.specs.Targets.{dependencies_cmp, pairs_cmp, targets_of}
use Rattle.cargo_lock_diff.proofs.Merging.{one-more}
use Rattle.lists.proofs.Members.{in-map as map-there}
use Rattle.cargo_lock_diff.proofs.Orders.{target_total, targets_total}
use Rattle.cargo_lock_diff.proofs.Vouched.{any-there}

-- ---- tests of lists

pub any-same : {X : Type 0} (p q : X → Bool) → ((x : X) → p x ≡ q x) → (xs : List X) → list_any p xs ≡ list_any q xs
any-same p q same [] = refl
any-same p q same (x ∷ xs) = λ i. same x i || any-same p q same xs i

pub filter-same : {X : Type 0} (p q : X → Bool) → ((x : X) → p x ≡ q x) → (xs : List X) → filter p xs ≡ filter q xs
filter-same p q same [] = refl
filter-same p q same (x ∷ xs) = λ i. cond (same x i) (x ∷ filter-same p q same xs i) (filter-same p q same xs i)

and-false : (a : Bool) → (a && false) ≡ false
and-false true = refl
and-false false = refl

and-or : (a b c : Bool) → (a && (b || c)) ≡ ((a && b) || (a && c))
and-or true b c = refl
and-or false b c = refl

and-turn : (a b : Bool) → (a && b) ≡ (b && a)
and-turn true true = refl
and-turn true false = refl
and-turn false true = refl
and-turn false false = refl

or-assoc : (a b c d : Bool) → ((a || b) || (c || d)) ≡ ((a || c) || (b || d))
or-assoc true b c d = refl
or-assoc false true true d = refl
or-assoc false true false d = refl
or-assoc false false c d = refl

never : {X : Type 0} (xs : List X) → list_any (λ (x : X). false) xs ≡ false
never [] = refl
never (x ∷ xs) = never xs

any-or : {X : Type 0} (p q : X → Bool) (xs : List X) → list_any (λ x. p x || q x) xs ≡ (list_any p xs || list_any q xs)
any-or p q [] = refl
any-or p q (x ∷ xs) = ap (λ b. (p x || q x) || b) (any-or p q xs) ∙ or-assoc (p x) (q x) (list_any p xs) (list_any q xs)

any-and : {X : Type 0} (a : Bool) (q : X → Bool) (xs : List X) → list_any (λ x. a && q x) xs ≡ (a && list_any q xs)
any-and a q [] = sym (and-false a)
any-and a q (x ∷ xs) = ap (λ b. (a && q x) || b) (any-and a q xs) ∙ sym (and-or a (q x) (list_any q xs))

-- ---- from pairs to dependencies

-- of some dependencies, one is of the new package of a pair whose old package has the dependency
abbrev leads-to : Identity → List Identity → Bor PackageData × Bor PackageData → Bool
leads-to d es p = is_target p.0.now d && list_any (is_target p.1.now) es

leads-each : (d : Identity) (es : List Identity) (xs : List (Bor PackageData × Bor PackageData))
    → list_any (is_carried (referred_pairs xs) d) es ≡ list_any (leads-to d es) xs
leads-each d es [] = never es
leads-each d es (x ∷ xs) =
    any-or (λ e. is_target x.0.now d && is_target x.1.now e) (is_carried (referred_pairs xs) d) es
    ∙ (λ i. any-and (is_target x.0.now d) (is_target x.1.now) es i || leads-each d es xs i)

-- the order of pairs by their old packages alone
abbrev first_of : Bor PackageData × Bor PackageData → Identity
first_of p = identity_of p.0.now

first-below : (a b : Bor PackageData × Bor PackageData) → pairs_cmp a b ≡ Less → is_lt (target_cmp (first_of b) (first_of a)) ≡ false
first-below a b h = ap is_lt (target_total.antisymm (first_of b) (first_of a)) ∙ by (target_cmp (first_of a) (first_of b)) (target_cmp (identity_of a.1.now) (identity_of b.1.now)) h
  where
    by : (r s : Ordering) → ordering_then r s ≡ Less → is_lt (ordering_reverse r) ≡ false
    by Less s h = refl
    by Equal s h = refl
    by Greater s h = cc h

first-sorted : (xs : List (Bor PackageData × Bor PackageData)) → IsStrictlySortedBy pairs_cmp xs
    → IsSortedBy (λ (a b : Bor PackageData × Bor PackageData). is_lt (target_cmp (first_of a) (first_of b))) xs
first-sorted xs up k d low lt = first-below (get_or xs k d) (get_or xs (k + 1) d) (Less-from_sorted pairs_cmp xs k (k + 1) d up (omega arith) lt)

pub first-rises : (d : Identity) (xs : List (Bor PackageData × Bor PackageData)) → IsStrictlySortedBy pairs_cmp xs
    → IsNonDecreasingBy (λ (p : Bor PackageData × Bor PackageData). ordering_index (target_cmp (first_of p) d)) xs
first-rises d xs up = searchable_from_sorted target_total first_of xs d (first-sorted xs up)

index-lt : (r : Ordering) → is_lt r ≡ true → ordering_index r ≡ 0
index-lt Less h = refl
index-lt Equal h = cc h
index-lt Greater h = cc h

lt-index : (r : Ordering) → ordering_index r ≤ 0 → is_lt r ≡ true
lt-index Less h = refl
lt-index Equal h = absurd (omega (arith, h))
lt-index Greater h = absurd (omega (arith, h))

pub parted-by : (d : Identity) (xs : List (Bor PackageData × Bor PackageData)) → IsStrictlySortedBy pairs_cmp xs
    → IsPartitionedBy (λ (p : Bor PackageData × Bor PackageData). is_lt (target_cmp (first_of p) d)) xs
parted-by d xs up i j x le lt h =
    let rise : ordering_index (target_cmp (first_of (get_or xs i x)) d) ≤ ordering_index (target_cmp (first_of (get_or xs j x)) d) = first-rises d xs up i j x le lt in
    let low : ordering_index (target_cmp (first_of (get_or xs j x)) d) ≡ 0 = index-lt (target_cmp (first_of (get_or xs j x)) d) h in
    lt-index (target_cmp (first_of (get_or xs i x)) d) (omega (arith, rise, low))

below-no-target : (r : Ordering) (b : Bool) → is_lt r ≡ true → (is_eq r && b) ≡ false
below-no-target Less b h = refl
below-no-target Equal b h = cc h
below-no-target Greater b h = cc h

above-not-eq : (r : Ordering) → 2 ≤ ordering_index r → is_eq r ≡ false
above-not-eq Less h = refl
above-not-eq Equal h = absurd (omega (arith, h))
above-not-eq Greater h = refl

-- what is dropped does not pass
any-dropped : {X : Type 0} (r : X → Bool) (i : ℕ) (xs : List X) → ((k : ℕ) (d : X) → k < i → k < length xs → r (get_or xs k d) ≡ false)
    → list_any r xs ≡ list_any r (drop i xs)
any-dropped r zero xs h = refl
any-dropped r (suc i) [] h = refl
any-dropped {X} r (suc i) (x ∷ xs) h =
    (λ j. h 0 x (omega arith) (omega arith) j || list_any r xs)
    ∙ any-dropped r i xs (λ k d lt within. h (suc k) d (omega (arith, lt)) (omega (arith, within)))

-- where the first ones are those that tie, these are all
any-led : {X : Type 0} (c : X → Ordering) (q : X → Bool) (ys : List X) → IsNonDecreasingBy (λ y. ordering_index (c y)) ys
    → ((k : ℕ) (d : X) → k < length ys → is_lt (c (get_or ys k d)) ≡ false)
    → list_any q (take_while (λ y. is_eq (c y)) ys) ≡ list_any (λ y. is_eq (c y) && q y) ys
any-led c q [] up none = refl
any-led {X} c q (y ∷ ys) up none =
    ap (list_any q) (take_while-cons (λ x. is_eq (c x)) y ys)
    ∙ by (any-led c q ys (λ i j d le lt. up (suc i) (suc j) d (omega (arith, le)) (omega (arith, lt)))
    (λ k d lt. none (suc k) d (omega (arith, lt)))) (c y) refl
  where
    far : (k : ℕ) (x : X) → 2 ≤ ordering_index (c y) → k < length ys → (is_eq (c (get_or ys k x)) && q (get_or ys k x)) ≡ false
    far k x high lt =
        let rise : ordering_index (c y) ≤ ordering_index (c (get_or ys k x)) = up 0 (suc k) x (omega arith) (omega (arith, lt)) in
        ap (λ b. b && q (get_or ys k x)) (above-not-eq (c (get_or ys k x)) (omega (arith, high, rise)))

    by : list_any q (take_while (λ x. is_eq (c x)) ys) ≡ list_any (λ x. is_eq (c x) && q x) ys
        → (r : Ordering) → c y ≡ r
        → list_any q (cond (is_eq (c y)) (y ∷ take_while (λ x. is_eq (c x)) ys) [])
        ≡ ((is_eq (c y) && q y) || list_any (λ x. is_eq (c x) && q x) ys)
    by rest Less e = absurd (cc (none 0 y (omega arith), ap is_lt e))
    by rest Equal e = rw e (ap (λ b. q y || b) rest)
    by rest Greater e = rw e (sym (list_any_none (λ x. is_eq (c x) && q x) ys (λ k x lt. far k x (rw e (omega arith)) lt)))

-- what leads from a dependency is found among the pairs from the first one on that is not before it
pub leads-from : (d : Identity) (es : List Identity) (xs : List (Bor PackageData × Bor PackageData)) (i : ℕ) → IsStrictlySortedBy pairs_cmp xs → i ≤ length xs
    → IsPartitionPoint (λ (p : Bor PackageData × Bor PackageData). is_lt (target_cmp (first_of p) d) ≡ true)
    (λ (p : Bor PackageData × Bor PackageData). is_lt (target_cmp (first_of p) d) ≡ false) xs i
    → list_any (λ p. list_any (is_target p.1.now) es) (take_while (λ p. is_target p.0.now d) (drop i xs)) ≡ list_any (is_carried (referred_pairs xs) d) es
leads-from d es xs i up within parts =
    let c : Bor PackageData × Bor PackageData → Ordering = λ p. target_cmp (first_of p) d in
    any-led c (λ p. list_any (is_target p.1.now) es) (drop i xs) (IsNonDecreasingBy-drop (λ p. ordering_index (c p)) i xs (first-rises d xs up))
    (λ k x lt. ap (λ (p : Bor PackageData × Bor PackageData). is_lt (c p)) (get_or-drop i xs k x) ∙ parts.1 (i + k) x (omega arith) (omega (arith, length-drop i xs, lt)))
    ∙ sym (any-dropped (leads-to d es) i xs
    (λ k x lt there. below-no-target (c (get_or xs k x)) (list_any (is_target (get_or xs k x).1.now) es) (parts.0 k x (omega arith) lt)))
    ∙ sym (leads-each d es xs)

-- ---- one among dependencies

turned : (r s : Ordering) → r ≡ ordering_reverse s → s ≡ Equal → is_eq r ≡ true
turned r s e h = ap is_eq (e ∙ ap ordering_reverse h)

turned-not : (r s : Ordering) → r ≡ ordering_reverse s → ((s ≡ Less) ⊎ (s ≡ Greater)) → is_eq r ≡ false
turned-not r s e (inl h) = ap is_eq (e ∙ ap ordering_reverse h)
turned-not r s e (inr h) = ap is_eq (e ∙ ap ordering_reverse h)

pub among-found : (one : Identity) (xs : List (Bor Identity)) (k : ℕ) → k < length xs
    → ((x : Bor Identity) → target_cmp (get_or xs k x).now one ≡ Equal) → list_any (are_one one) (dependencies_at xs) ≡ true
among-found one [] k lt tie = absurd (omega (arith, lt))
among-found one (y ∷ ys) k lt tie =
    let xs : List (Bor Identity) = y ∷ ys in
    any-there (are_one one) (dependencies_at xs) (get_or xs k y).now (map-there (λ (b : Bor Identity). b.now) xs (get_or xs k y) (Contains-get_or xs k y lt))
    (turned _ _ (target_total.antisymm one (get_or xs k y).now) (tie y))

pub among-none : (one : Identity) (xs : List (Bor Identity)) (i : ℕ) → IsSorted dependencies_cmp xs
    → (IsNonDecreasingBy (λ (b : Bor Identity). ordering_index (target_cmp b.now one)) xs
    → IsPartitionPoint (λ (b : Bor Identity). target_cmp b.now one ≡ Less)
    (λ (b : Bor Identity). target_cmp b.now one ≡ Greater) xs i)
    → list_any (are_one one) (dependencies_at xs) ≡ false
among-none one xs i up parted =
    let parts = parted (searchable_from_sorted target_total (λ (b : Bor Identity). b.now) xs one up) in
    list_any_none (are_one one) (dependencies_at xs) (All-map (λ (d : Identity). are_one one d ≡ false) (λ (b : Bor Identity). b.now) xs
    (λ k x lt. turned-not _ _ (target_total.antisymm one (get_or xs k x).now) (apart parts k x lt (cases_order k i))))
  where
    apart : IsPartitionPoint (λ (b : Bor Identity). target_cmp b.now one ≡ Less)
        (λ (b : Bor Identity). target_cmp b.now one ≡ Greater) xs i
        → (k : ℕ) (x : Bor Identity) → k < length xs → ((k ≡ i) ⊎ ((k < i) ⊎ (i < k)))
        → (target_cmp (get_or xs k x).now one ≡ Less) ⊎ (target_cmp (get_or xs k x).now one ≡ Greater)
    apart parts k x lt (inl h) = inr (parts.1 k x (omega (arith, h)) lt)
    apart parts k x lt (inr (inl below)) = inl (parts.0 k x (omega arith) below)
    apart parts k x lt (inr (inr above)) = inr (parts.1 k x (omega arith) lt)

-- ---- pairs in order

-- the pairs are looked up by both identities at once
abbrev ties : Identity → Identity → Bor PackageData × Bor PackageData → Bool
ties d e p = are_targets (p.0.now, p.1.now) d e

carried-at : (d e : Identity) (xs : List (Bor PackageData × Bor PackageData)) → is_carried (referred_pairs xs) d e ≡ list_any (ties d e) xs
carried-at d e [] = refl
carried-at d e (x ∷ xs) = ap (λ b. ties d e x || b) (carried-at d e xs)

or-same : (a b c : Bool) → b ≡ a → (a || c) ≡ (a || (b || c))
or-same true b c h = refl
or-same false b c h = λ i. sym h i || c

any-dedup_from : {X : Type 0} (same : X → X → Bool) (q : X → Bool) → ((x y : X) → same x y ≡ true → q x ≡ q y) → (k : X) (xs : List X)
    → list_any q (dedup_from same k xs) ≡ (q k || list_any q xs)
any-dedup_from same q alike k [] = refl
any-dedup_from {X} same q alike k (x ∷ xs) = by (any-dedup_from same q alike k xs) (any-dedup_from same q alike x xs) (same x k) refl
  where
    by : list_any q (dedup_from same k xs) ≡ (q k || list_any q xs) → list_any q (dedup_from same x xs) ≡ (q x || list_any q xs)
        → (b : Bool) → same x k ≡ b → list_any q (cond (same x k) (dedup_from same k xs) (k ∷ dedup_from same x xs)) ≡ (q k || (q x || list_any q xs))
    by one other true e = rw e (one ∙ or-same (q k) (q x) (list_any q xs) (alike x k e))
    by one other false e = rw e (ap (λ b. q k || b) other)

any-dedup : {X : Type 0} (same : X → X → Bool) (q : X → Bool) → ((x y : X) → same x y ≡ true → q x ≡ q y) → (xs : List X)
    → list_any q (dedup same xs) ≡ list_any q xs
any-dedup same q alike [] = refl
any-dedup same q alike (x ∷ xs) = any-dedup_from same q alike x xs

eq-then : (r s : Ordering) → is_eq (ordering_then r s) ≡ (is_eq r && is_eq s)
eq-then Less s = refl
eq-then Equal s = refl
eq-then Greater s = refl

ties-alike : (d e : Identity) (x y : Bor PackageData × Bor PackageData) → is_eq (pairs_cmp x y) ≡ true → ties d e x ≡ ties d e y
ties-alike d e x y h =
    sym (eq-then (target_cmp (identity_of x.0.now) d) (target_cmp (identity_of x.1.now) e))
    ∙ ap is_eq (targets_total.congr (targets_of x) (targets_of y) (d, e) ((Equal-is (pairs_cmp x y)).0 h))
    ∙ eq-then (target_cmp (identity_of y.0.now) d) (target_cmp (identity_of y.1.now) e)

pub in_order-carries : (xs ys zs : List (Bor PackageData × Bor PackageData)) → IsPermutation xs ys → zs ≡ dedup (λ x y. is_eq (pairs_cmp x y)) ys
    → (d e : Identity) → is_carried (referred_pairs zs) d e ≡ is_carried (referred_pairs xs) d e
in_order-carries xs ys zs perm made d e =
    ap (λ l. is_carried (referred_pairs l) d e) made
    ∙ carried-at d e (dedup (λ x y. is_eq (pairs_cmp x y)) ys)
    ∙ any-dedup (λ x y. is_eq (pairs_cmp x y)) (ties d e) (ties-alike d e) ys
    ∙ sym (list_any-IsPermutation (ties d e) xs ys perm)
    ∙ sym (carried-at d e xs)

pub exchanged-carries : (d e : Identity) (ps : List (PackageData × PackageData)) → is_carried (map exchanged_pair ps) e d ≡ is_carried ps d e
exchanged-carries d e [] = refl
exchanged-carries d e (p ∷ ps) = λ i. and-turn (is_target p.1 e) (is_target p.0 d) i || exchanged-carries d e ps i

-- ---- what only one has

pub only-by-sorted : (forward : Bool) (pairs : List (PackageData × PackageData)) (these others sorted : List Identity) → IsPermutation others sorted
    → filter (λ d. not (is_met forward pairs sorted d)) these ≡ only_in forward pairs these others
only-by-sorted forward pairs these others sorted perm =
    filter-same (λ d. not (is_met forward pairs sorted d)) (λ d. not (is_met forward pairs others d))
    (λ d. λ i. not (sym (list_any-IsPermutation (are_one d) others sorted perm) i
    || sym (list_any-IsPermutation (is_carried_either forward pairs d) others sorted perm) i)) these

pub none-passes : {X : Type 0} (p : X → Bool) (xs : List X) → length (filter p xs) ≡ 0 → list_any p xs ≡ false
none-passes p [] h = refl
none-passes {X} p (x ∷ xs) h = by (none-passes p xs) (p x) refl
  where
    by : (length (filter p xs) ≡ 0 → list_any p xs ≡ false) → (b : Bool) → p x ≡ b → (p x || list_any p xs) ≡ false
    by rest true e = absurd (omega (arith, rw e at h))
    by rest false e = rw e (rest (rw e at h))

pub some-passes : {X : Type 0} (p : X → Bool) (xs : List X) → 0 < length (filter p xs) → list_any p xs ≡ true
some-passes p [] h = absurd (omega (arith, h))
some-passes {X} p (x ∷ xs) h = by (some-passes p xs) (p x) refl
  where
    by : (0 < length (filter p xs) → list_any p xs ≡ true) → (b : Bool) → p x ≡ b → (p x || list_any p xs) ≡ true
    by rest true e = rw e refl
    by rest false e = rw e (rest (rw e at h))

-- ---- changes

-- a pair of which neither package has a dependency of its own
pub no-others : (targets : List (PackageData × PackageData)) (old new : PackageData) (gone came : List (Bor Identity))
    → dependencies_at gone ≡ only_in true targets old.dependencies new.dependencies
    → dependencies_at came ≡ only_in false targets new.dependencies old.dependencies
    → length gone ≡ 0 → length came ≡ 0 → other_dependencies targets ((old, new) ∷ []) ≡ []
no-others targets old new gone came g a h k =
    let one : list_any (λ d. not (is_met true targets new.dependencies d)) old.dependencies ≡ false
    = none-passes (λ d. not (is_met true targets new.dependencies d)) old.dependencies (ap length (sym g) ∙ length-map gone (λ (b : Bor Identity). b.now) ∙ h) in
    let other : list_any (λ d. not (is_met false targets old.dependencies d)) new.dependencies ≡ false
    = none-passes (λ d. not (is_met false targets old.dependencies d)) new.dependencies (ap length (sym a) ∙ length-map came (λ (b : Bor Identity). b.now) ∙ k) in
    λ i. map (dependency_change_of targets) (cond (one i || other i) ((old, new) ∷ []) [])

pub or-true : (a b : Bool) → (a ≡ true) ⊎ (b ≡ true) → (a || b) ≡ true
or-true true b h = refl
or-true false b (inl h) = cc h
or-true false b (inr h) = h

-- a pair of which one package has a dependency of its own
pub some-others : (targets : List (PackageData × PackageData)) (old new : PackageData) (gone came : List (Bor Identity))
    → dependencies_at gone ≡ only_in true targets old.dependencies new.dependencies
    → dependencies_at came ≡ only_in false targets new.dependencies old.dependencies
    → (0 < length gone) ⊎ (0 < length came)
    → other_dependencies targets ((old, new) ∷ []) ≡ OtherDependencies old new (dependencies_at gone) (dependencies_at came) ∷ []
some-others targets old new gone came g a h =
    let hit : have_other_dependencies targets old new ≡ true = or-true _ _ (by h) in
    (λ i. map (dependency_change_of targets) (cond (hit i) ((old, new) ∷ []) []))
    ∙ (λ i. OtherDependencies old new (sym g i) (sym a i) ∷ [])
  where
    by : (0 < length gone) ⊎ (0 < length came)
        → (list_any (λ d. not (is_met true targets new.dependencies d)) old.dependencies ≡ true)
        ⊎ (list_any (λ d. not (is_met false targets old.dependencies d)) new.dependencies ≡ true)
    by (inl few) = inl (some-passes (λ d. not (is_met true targets new.dependencies d)) old.dependencies
        (omega (arith, ap length g, length-map gone (λ (b : Bor Identity). b.now), few)))
    by (inr few) = inr (some-passes (λ d. not (is_met false targets old.dependencies d)) new.dependencies
        (omega (arith, ap length a, length-map came (λ (b : Bor Identity). b.now), few)))

-- one more pair
pub one-more-pair : (targets : List (PackageData × PackageData)) (items : List (Bor PackageData × Bor PackageData)) (i : ℕ) (x : Bor PackageData × Bor PackageData)
    → i < length items → x ≡ get_or items i x
    → other_dependencies targets (referred_pairs (take (i + 1) items))
    ≡ other_dependencies targets (referred_pairs (take i items)) ++ other_dependencies targets ((x.0.now, x.1.now) ∷ [])
one-more-pair targets items i x lt at =
    let before : List (PackageData × PackageData) = referred_pairs (take i items) in
    let one : List (PackageData × PackageData) = (x.0.now, x.1.now) ∷ [] in
    let has : PackageData × PackageData → Bool = λ q. have_other_dependencies targets q.0 q.1 in
    ap (other_dependencies targets) (ap referred_pairs (one-more items i x lt at) ∙ map-append (λ (p : Bor PackageData × Bor PackageData). (p.0.now, p.1.now)) (take i items) (x ∷ []))
    ∙ ap (map (dependency_change_of targets)) (filter-append has before one)
    ∙ map-append (dependency_change_of targets) (filter has before) (filter has one)
