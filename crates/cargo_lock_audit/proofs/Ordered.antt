-- Files in the order of the ids of their advisories.
use Rattle.std.proofs.Common.{◌≡◌, ◌≢◌, ◌+◌, ◌-◌, ◌<◌, ◌≤◌, ◌++◌, ◌∙◌, ℕ, Bool, true, false, true≢false, suc, List, [], ◌∷◌, ap, arith, cond, count_by, drop, drop-cons, get_or, length, map, refl, subst, sym, take}
use Rattle.std.specs.Cmp.Lexicographic.{nat_list_cmp_total}
use Rattle.std.specs.FinMap.{nat_cmp-IsAntisymmetric, slice_cmp-IsAntisymmetric}
use Rattle.std.specs.List.Sorted.{IsPermutation, IsSorted}
use Rattle.std.specs.Ordering.{is_lt, ordering_reverse}
use Rattle.std.specs.declared.cmp.Ordering.{Ordering}
use Rattle.std.specs.declared.cmp.Ordering.TheVariants.{Less, Equal, Greater}
use Rattle.std.proofs.lemmas.List.{get_or_default, map-append, take-append-drop}
use Rattle.std.proofs.lemmas.List.Sorted.{Contains-permutation, IsPermutation-map, IsPermutation-sym, sum_by-IsPermutation}
use Rattle.std.proofs.lemmas.List.Sums.{sum_by-append}
use Rattle.std.specs.List.{sum_by}
use Rattle.std.proofs.lemmas.Slice.Eq.{bytes_eq-Decides}
use Rattle.cargo_lock_audit.specs.declared.database.AdvisoryFile.{AdvisoryFile}
use Rattle.cargo_lock_audit.specs.Advisory.{AdvisoryData}
use Rattle.cargo_lock_audit.specs.declared.database.DatabaseFault.{DatabaseFault}
use Rattle.cargo_lock_audit.specs.declared.database.DatabaseFault.TheVariants as fault
use Rattle.cargo_lock_audit.specs.Database.{AreInOrderOfIds, IsMisplacedFileAt, IsRefused, IsTwiceAt, advisories_of, file_cmp, has_id, is_misplaced}

-- what is left of a list from the place before i on
two-left : {X : Type 0} (xs : List X) (i : ℕ) (x y : X) → 0 < i → i < length xs → x ≡ get_or xs (i - 1) x → y ≡ get_or xs i y
    → drop (i - 1) xs ≡ x ∷ y ∷ drop (i + 1) xs
two-left xs i x y some within is-x is-y =
    let before : i - 1 < length xs = omega arith in
    let next : suc (i - 1) ≡ i = omega arith in
    let after : suc i ≡ i + 1 = omega arith in
    drop-cons xs (i - 1) x before
    ∙ ap (λ (z : _). z ∷ drop (suc (i - 1)) xs) (sym is-x)
    ∙ ap (λ (j : ℕ). x ∷ drop j xs) next
    ∙ ap (λ (zs : List _). x ∷ zs) (drop-cons xs i y within ∙ ap (λ (z : _). z ∷ drop (suc i) xs) (sym is-y) ∙ ap (λ (j : ℕ). y ∷ drop j xs) after)

-- one more file is in order
pub ordered-more : (xs : List AdvisoryFile) (i : ℕ) (x y : AdvisoryFile) → 0 < i → i < length xs → x ≡ get_or xs (i - 1) x → y ≡ get_or xs i y
    → file_cmp x y ≡ Less → (AreInOrderOfIds (advisories_of (drop (i - 1) xs)) → AreInOrderOfIds (advisories_of xs))
    → AreInOrderOfIds (advisories_of (drop ((i + 1) - 1) xs)) → AreInOrderOfIds (advisories_of xs)
ordered-more xs i x y some within is-x is-y less before rest =
    let same : (i + 1) - 1 ≡ i = omega arith in
    let after : suc i ≡ i + 1 = omega arith in
    let left : drop i xs ≡ y ∷ drop (i + 1) xs = drop-cons xs i y within ∙ ap (λ (z : AdvisoryFile). z ∷ drop (suc i) xs) (sym is-y)
    ∙ ap (λ (j : ℕ). y ∷ drop j xs) after in
    let there : AreInOrderOfIds (advisories_of (y ∷ drop (i + 1) xs)) =
    subst (λ (zs : List AdvisoryFile). AreInOrderOfIds (advisories_of zs)) left
    (subst (λ (j : ℕ). AreInOrderOfIds (advisories_of (drop j xs))) same rest) in
    before (subst (λ (zs : List AdvisoryFile). AreInOrderOfIds (advisories_of zs)) (sym (two-left xs i x y some within is-x is-y)) (less, there))

-- one file is in order, and none is
pub ordered-one : (xs : List AdvisoryFile) → length xs ≤ 1 → AreInOrderOfIds (advisories_of xs)
ordered-one [] h = tt
ordered-one (x ∷ []) h = tt
ordered-one (x ∷ y ∷ rest) h = absurd (omega arith)

-- ---- an id of two files

tied : (o r : Ordering) → r ≡ ordering_reverse o → o ≢ Less → is_lt r ≡ false → o ≡ Equal
tied Less r e not-less not-before = absurd (not-less refl)
tied Equal r e not-less not-before = refl
tied Greater r e not-less not-before = absurd (true≢false (sym (ap is_lt e) ∙ not-before))

two-count : {X : Type 0} (p : X → Bool) (pre rest : List X) (x y : X) → p x ≡ true → p y ≡ true
    → 1 < count_by p (pre ++ (x ∷ y ∷ rest))
two-count p pre rest x y px py =
    let both : sum_by (λ z. cond (p z) 1 0) (x ∷ y ∷ []) ≡ 2 = rw (px, py) refl in
    let front : sum_by (λ z. cond (p z) 1 0) (pre ++ (x ∷ y ∷ rest)) ≡ sum_by (λ z. cond (p z) 1 0) pre + sum_by (λ z. cond (p z) 1 0) (x ∷ y ∷ rest) =
    sum_by-append (λ z. cond (p z) 1 0) pre (x ∷ y ∷ rest) in
    let back : sum_by (λ z. cond (p z) 1 0) (x ∷ y ∷ rest) ≡ sum_by (λ z. cond (p z) 1 0) (x ∷ y ∷ []) + sum_by (λ z. cond (p z) 1 0) rest =
    sum_by-append (λ z. cond (p z) 1 0) (x ∷ y ∷ []) rest in
    above (sum_by (λ z. cond (p z) 1 0) pre) (sum_by (λ z. cond (p z) 1 0) rest) _ _ _ both back front
  where
    above : (a r b m t : ℕ) → b ≡ 2 → m ≡ b + r → t ≡ a + m → 1 < t
    above a r b m t h i j = omega arith

-- the id at a place of sorted files that is not after that before it is one of two
twice-counted : (xs : List AdvisoryFile) (i : ℕ) → IsSorted file_cmp xs → IsTwiceAt xs i → (f : AdvisoryFile) → f ≡ get_or xs i f
    → 1 < count_by (has_id f.advisory.id) (advisories_of xs)
twice-counted xs i sorted (some, within, not-less) f is =
    let e : AdvisoryFile = get_or xs (i - 1) f in
    let step : (i - 1) + 1 ≡ i = omega arith in
    let low : (i - 1) + 1 < length xs = omega arith in
    let not-before : is_lt (file_cmp (get_or xs i f) e) ≡ false =
    subst (λ (j : ℕ). is_lt (file_cmp (get_or xs j f) e) ≡ false) step (sorted (i - 1) f (omega arith) low) in
    let tie : file_cmp e (get_or xs i f) ≡ Equal = tied (file_cmp e (get_or xs i f)) (file_cmp (get_or xs i f) e)
    (nat_list_cmp_total.antisymm (get_or xs i f).advisory.id e.advisory.id) (not-less f) not-before in
    let same : e.advisory.id ≡ (get_or xs i f).advisory.id = slice_cmp-IsAntisymmetric nat_cmp-IsAntisymmetric e.advisory.id (get_or xs i f).advisory.id tie in
    let left : drop (i - 1) xs ≡ e ∷ f ∷ drop (i + 1) xs = two-left xs i e f some within (get_or_default xs (i - 1) f e (omega arith)) is in
    let whole : advisories_of xs ≡ map (λ (g : AdvisoryFile). g.advisory) (take (i - 1) xs) ++ (e.advisory ∷ f.advisory ∷ advisories_of (drop (i + 1) xs)) =
    ap advisories_of (sym (take-append-drop (i - 1) xs) ∙ ap (λ (zs : List AdvisoryFile). take (i - 1) xs ++ zs) left)
    ∙ map-append (λ (g : AdvisoryFile). g.advisory) (take (i - 1) xs) (e ∷ f ∷ drop (i + 1) xs) in
    subst (λ (zs : List AdvisoryData). 1 < count_by (has_id f.advisory.id) zs) (sym whole)
    (two-count (has_id f.advisory.id) (map (λ (g : AdvisoryFile). g.advisory) (take (i - 1) xs)) (advisories_of (drop (i + 1) xs)) e.advisory f.advisory
    ((bytes_eq-Decides f.advisory.id e.advisory.id).1 (sym (same ∙ ap (λ (g : AdvisoryFile). g.advisory.id) (sym is))))
    ((bytes_eq-Decides f.advisory.id f.advisory.id).1 refl))

-- ---- refusals

-- why files in another order are refused
pub refused-permuted : (xs ys : List AdvisoryFile) → IsPermutation xs ys → (e : DatabaseFault) → IsRefused ys e → IsRefused xs e
refused-permuted xs ys perm (fault.OtherPackage f) (there, misplaced) =
    (Contains-permutation ys xs f (IsPermutation-sym xs ys perm) there, misplaced)
refused-permuted xs ys perm (fault.Twice f) (there, h) =
    let same : count_by (has_id f.advisory.id) (advisories_of ys) ≡ count_by (has_id f.advisory.id) (advisories_of xs) =
    sum_by-IsPermutation (λ a. cond (has_id f.advisory.id a) 1 0) (advisories_of xs) (advisories_of ys)
    (IsPermutation-map (λ (g : AdvisoryFile). g.advisory) xs ys perm) in
    (Contains-permutation ys xs f (IsPermutation-sym xs ys perm) there, subst (λ (n : ℕ). 1 < n) same h)
refused-permuted xs ys perm (fault.Unread path e) h = absurd h
refused-permuted xs ys perm fault.Memory h = tt

-- a file at a place that is misplaced
pub misplaced-refused : (xs : List AdvisoryFile) (k : ℕ) → IsMisplacedFileAt xs k → (f : AdvisoryFile) → f ≡ get_or xs k f
    → IsRefused xs (fault.OtherPackage f)
misplaced-refused xs k (low, at) f is = (
  (k, low, sym is),
  subst (λ (g : AdvisoryFile). is_misplaced g ≡ true) (sym is) (at f),
)

-- a file at a place of sorted files that has the id of that before it
pub twice-refused : (xs : List AdvisoryFile) (k : ℕ) → IsSorted file_cmp xs → IsTwiceAt xs k → (f : AdvisoryFile) → f ≡ get_or xs k f
    → IsRefused xs (fault.Twice f)
twice-refused xs k sorted at f is = ((k, at.1, sym is), twice-counted xs k sorted at f is)
