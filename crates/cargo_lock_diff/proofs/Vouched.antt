-- What vouches for a package among all old packages and among those that have a checksum.
use Rattle.std.proofs.Common.{◌≡◌, ℕ, suc, ◌+◌, ◌<◌, Bool, true, false, true≢false, not, cond, List, [], ◌∷◌, ◌++◌, ◌⊎◌, inl, inr, Option, Some, None, take, length, get_or, refl, ap, sym, ◌∙◌, subst, arith, IsPermutation, IsSorted, All}
use Rattle.std.specs.Prelude.{◌&&◌, ◌||◌, MatchOption, is_some, option_map}
use Rattle.std.specs.Borrow.{Bor}
use Rattle.std.specs.Cmp.{Equal-is, eq_by_cmp_equiv}
use Rattle.std.specs.declared.cmp.Ordering.{Ordering}
use Rattle.std.specs.declared.cmp.Ordering.TheVariants.{Less, Equal, Greater}
use Rattle.std.specs.List.{Contains, filter, list_any}
use Rattle.std.specs.List.Sorted.{IsNonDecreasingBy, IsPartitionPoint}
use Rattle.std.specs.Ordering.{is_eq, ordering_index, ordering_reverse}
use Rattle.std.proofs.lemmas.Bool.{cases_order}
use Rattle.std.proofs.lemmas.List.{append-nil, map-append}
use Rattle.std.proofs.lemmas.List.Elements.{All-append, All-cons, All-contains, All-contains_itself, All-filter, All-head, All-map, All-nil, All-push, All-tail, All-weaker, Contains-append_cases, Contains-append_left, Contains-push, filter-append, filter_passes}
use Rattle.std.proofs.lemmas.List.Folds.{list_any_at, list_any_none}
use Rattle.std.proofs.lemmas.List.Sorted.{All-permutation, Contains-permutation, IsPermutation-filter_both, IsPermutation-map, IsPermutation-refl, IsPermutation-sym, IsPermutation-trans, list_any-IsPermutation, searchable_from_sorted}
use Rattle.std.proofs.lemmas.Map.Views.{any-filter_same}
use Rattle.cargo_lock_parts.specs.Identity.{PackageData}
use Rattle.cargo_lock_parts.specs.IdentityOrder.{version_cmp}
use Rattle.cargo_lock_parts.specs.SourceKey.{text_cmp}
use Rattle.cargo_lock_diff.specs.declared.likeness.Likeness.{Likeness}
use Rattle.cargo_lock_diff.specs.declared.likeness.Likeness.TheVariants.{Name, Version, Place, Archive}
use Rattle.cargo_lock_diff.specs.Alarm.{AreAlarms, IsFounded, is_alarm, is_altered, is_checksummed, is_suspect, is_vouched}
use Rattle.cargo_lock_diff.specs.Difference.{referred_packages, referred_pairs}
use Rattle.cargo_lock_diff.specs.Likeness.{is_alike, likeness_cmp}
use Rattle.cargo_lock_diff.specs.Matching.{seconds}
use Rattle.cargo_lock_diff.specs.Same.{have_one_version}
use Rattle.cargo_lock_diff.specs.Vouchers.{AreVouchers, cmp_at}
use Rattle.cargo_lock_diff.proofs.Finer.{eq-both, place-version}
use Rattle.cargo_lock_diff.proofs.Merging.{one-more}
use Rattle.lists.proofs.Members.{in-map as map-there}
use Rattle.cargo_lock_diff.proofs.Orders.{likeness_total}
use Rattle.lists.proofs.Tests.{and-left as and-first}

vouched-among : (likeness : Likeness) (olds known : List PackageData) (p : PackageData) → IsPermutation (filter is_checksummed olds) known
    → is_vouched likeness known p ≡ is_vouched likeness olds p
vouched-among likeness olds known p perm =
    let test : PackageData → Bool = λ o. is_checksummed o && is_alike likeness p o in
    sym (list_any-IsPermutation test (filter is_checksummed olds) known perm)
    ∙ any-filter_same test is_checksummed true (λ o h. and-first (is_checksummed o) (is_alike likeness p o) h) olds

-- a package is suspect by all old packages where it is so by those that have a checksum
pub suspect-among : (olds known : List PackageData) → IsPermutation (filter is_checksummed olds) known → (p : PackageData)
    → is_suspect known p ≡ is_suspect olds p
suspect-among olds known perm p =
    λ i. cond (is_checksummed p) (vouched-among Version olds known p perm i && not (vouched-among Archive olds known p perm i)) (vouched-among Place olds known p perm i)

-- what is kept by a filter is a member, and a member that passes is kept
filter-from : {X : Type 0} (q : X → Bool) (xs : List X) (x : X) → Contains (filter q xs) x → Contains xs x
filter-from {X} q xs x there = All-contains (λ (y : X). Contains xs y) (filter q xs) x (All-filter q (λ (y : X). Contains xs y) xs (All-contains_itself xs)) there

filter-to : {X : Type 0} (q : X → Bool) (xs : List X) (x : X) → Contains xs x → q x ≡ true → Contains (filter q xs) x
filter-to {X} q xs x there hit =
    by (Contains-append_cases (filter q xs) (filter other xs) x
    (Contains-permutation xs (filter q xs ++ filter other xs) x (IsPermutation-filter_both q other (λ y. refl) xs) there))
  where
    other : X → Bool
    other y = not (q y)

    by : Contains (filter q xs) x ⊎ Contains (filter other xs) x → Contains (filter q xs) x
    by (inl h) = h
    by (inr h) =
        let miss : other x ≡ true = All-contains (λ (y : X). other y ≡ true) (filter other xs) x (filter_passes other xs) h in
        absurd (true≢false (sym miss ∙ ap not hit))

-- the old packages of pairs that have a checksum are among those that have one
pub vouched-pairs : (olds known : List PackageData) → IsPermutation (filter is_checksummed olds) known → (pairs : List (PackageData × PackageData))
    → All (λ p. Contains olds p.0) pairs → All (λ p. is_checksummed p.0 ≡ true → Contains known p.0) pairs
vouched-pairs olds known perm pairs = All-weaker (λ (p : PackageData × PackageData). Contains olds p.0) (λ (p : PackageData × PackageData). is_checksummed p.0 ≡ true → Contains known p.0)
    (λ p there has. Contains-permutation (filter is_checksummed olds) known p.0 perm (filter-to is_checksummed olds p.0 there has)) pairs

pub alarms-among : (olds known : List PackageData) → IsPermutation (filter is_checksummed olds) known
    → (pairs : List (PackageData × PackageData)) (added : List PackageData) (alarms : List (PackageData × PackageData))
    → AreAlarms known pairs added alarms → AreAlarms olds pairs added alarms
alarms-among olds known perm pairs added alarms a = record {
  founded = a.founded;
  among = All-weaker (λ (p : PackageData × PackageData). Contains known p.0) (λ (p : PackageData × PackageData). Contains olds p.0)
      (λ p there. filter-from is_checksummed olds p.0 (Contains-permutation known (filter is_checksummed olds) p.0 (IsPermutation-sym (filter is_checksummed olds) known perm) there)) alarms a.among;
  own = a.own;
  told = a.told ∙ (λ i. seconds (filter (λ p. is_altered p.0 p.1 || suspect-among olds known perm p.1 i) pairs) ++ filter (λ p. suspect-among olds known perm p i) added);
}

-- among packages that all have a checksum it does not count
any-checked : (test : PackageData → Bool) (known : List PackageData) → ((o : PackageData) → Contains known o → is_checksummed o ≡ true)
    → list_any (λ o. is_checksummed o && test o) known ≡ list_any test known
any-checked test [] all = refl
any-checked test (o ∷ os) all = λ i. (all o (0, omega arith, refl) i && test o) || any-checked test os (λ q c. all q (suc c.0, omega (arith, c.1), c.2)) i

pub checked : {vs archs ps : List (Bor PackageData)} → AreVouchers vs archs ps → (o : PackageData) → Contains (referred_packages vs) o → is_checksummed o ≡ true
checked {vs} v o there = All-contains (λ (q : PackageData). is_checksummed q ≡ true) (referred_packages vs) o (All-map (λ (q : PackageData). is_checksummed q ≡ true) (λ (b : Bor PackageData). b.now) vs v.checked) there

-- what is looked up in a list in another order is vouched for
pub vouched-in : (likeness : Likeness) {vs archs ps : List (Bor PackageData)} → AreVouchers vs archs ps → (others : List (Bor PackageData)) → IsPermutation vs others
    → (p : PackageData) → is_vouched likeness (referred_packages vs) p ≡ list_any (is_alike likeness p) (referred_packages others)
vouched-in likeness {vs} v others perm p =
    any-checked (is_alike likeness p) (referred_packages vs) (checked v)
    ∙ list_any-IsPermutation (is_alike likeness p) (referred_packages vs) (referred_packages others) (IsPermutation-map (λ (b : Bor PackageData). b.now) vs others perm)

symmetric : (likeness : Likeness) (a b : PackageData) → is_alike likeness a b ≡ true → is_alike likeness b a ≡ true
symmetric likeness a b h = (eq_by_cmp_equiv (likeness_total likeness)).symm b a ∙ h

-- what was looked up in a list in another order is there
known-in : (vs others : List (Bor PackageData)) → IsPermutation vs others → (o : PackageData) → Contains (referred_packages others) o → Contains (referred_packages vs) o
known-in vs others perm o = Contains-permutation (referred_packages others) (referred_packages vs) o
    (IsPermutation-sym (referred_packages vs) (referred_packages others) (IsPermutation-map (λ (b : Bor PackageData). b.now) vs others perm))

-- an old package that was looked up has a checksum, and the version of the package
pub founded : {vs archs ps : List (Bor PackageData)} → AreVouchers vs archs ps → (others : List (Bor PackageData)) → IsPermutation vs others
    → (o p : PackageData) → Contains (referred_packages others) o → is_alike Version p o ≡ true → IsFounded o p
founded {vs} v others perm o p there like = (
  checked v o (known-in vs others perm o there),
  symmetric Version p o like,
)

-- ---- looked up

-- what is there and passes is counted as one that passes
pub any-there : {X : Type 0} (q : X → Bool) (xs : List X) (x : X) → Contains xs x → q x ≡ true → list_any q xs ≡ true
any-there q xs x there hit = list_any_at q xs there.0 x there.1 (ap q there.2 ∙ hit)

-- a place that is found
pub found-at : (likeness : Likeness) (xs : List (Bor PackageData)) (p : PackageData) (k : ℕ) (x : Bor PackageData) → k < length xs → x ≡ get_or xs k x
    → likeness_cmp likeness x.now p ≡ Equal → Contains (referred_packages xs) x.now × (is_alike likeness p x.now ≡ true)
found-at likeness xs p k x lt at tie =
    (map-there (λ (b : Bor PackageData). b.now) xs x (k, lt, sym at), symmetric likeness x.now p ((Equal-is (likeness_cmp likeness x.now p)).1 tie))

not-eq : (r : Ordering) → (r ≡ Less) ⊎ (r ≡ Greater) → is_eq (ordering_reverse r) ≡ false
not-eq Less h = refl
not-eq Equal (inl h) = cc h
not-eq Equal (inr h) = cc h
not-eq Greater h = refl

-- no place is found
pub none-at : (likeness : Likeness) (xs : List (Bor PackageData)) (p : PackageData) (i : ℕ) → IsSorted (cmp_at likeness) xs
    → (IsNonDecreasingBy (λ (b : Bor PackageData). ordering_index (likeness_cmp likeness b.now p)) xs
    → IsPartitionPoint (λ (b : Bor PackageData). likeness_cmp likeness b.now p ≡ Less) (λ (b : Bor PackageData). likeness_cmp likeness b.now p ≡ Greater) xs i)
    → list_any (is_alike likeness p) (referred_packages xs) ≡ false
none-at likeness xs p i up parted =
    let parts = parted (searchable_from_sorted (likeness_total likeness) (λ (b : Bor PackageData). b.now) xs p up) in
    list_any_none (is_alike likeness p) (referred_packages xs) (All-map (λ (q : PackageData). is_alike likeness p q ≡ false) (λ (b : Bor PackageData). b.now) xs
    (λ k d lt. apart parts k d lt (cases_order k i)))
  where
    o : (q : PackageData) → is_eq (ordering_reverse (likeness_cmp likeness q p)) ≡ false → is_alike likeness p q ≡ false
    o q h = ap is_eq ((likeness_total likeness).antisymm p q) ∙ h

    apart : IsPartitionPoint (λ (b : Bor PackageData). likeness_cmp likeness b.now p ≡ Less) (λ (b : Bor PackageData). likeness_cmp likeness b.now p ≡ Greater) xs i
        → (k : ℕ) (d : Bor PackageData) → k < length xs → ((k ≡ i) ⊎ ((k < i) ⊎ (i < k))) → is_alike likeness p (get_or xs k d).now ≡ false
    apart parts k d lt (inl e) = o (get_or xs k d).now (not-eq _ (inr (parts.1 k d (omega (arith, e)) lt)))
    apart parts k d lt (inr (inl below)) = o (get_or xs k d).now (not-eq _ (inl (parts.0 k d (omega arith) below)))
    apart parts k d lt (inr (inr above)) = o (get_or xs k d).now (not-eq _ (inr (parts.1 k d (omega arith) lt)))

-- ---- suspects

abbrev pub Found : Likeness → List (Bor PackageData) → PackageData → Option (Bor PackageData) → Type 0
Found likeness others p r = MatchOption r (list_any (is_alike likeness p) (referred_packages others) ≡ false)
    (λ o. Contains (referred_packages others) o.now × (is_alike likeness p o.now ≡ true))

abbrev pub Against : List PackageData → PackageData → Option (Bor PackageData) → Type 0
Against known p r = MatchOption r (is_suspect known p ≡ false) (λ o. (is_suspect known p ≡ true) × IsFounded o.now p × Contains known o.now)

-- without a checksum
pub against-place : {vs archs ps : List (Bor PackageData)} → AreVouchers vs archs ps → (p : PackageData) → is_checksummed p ≡ false
    → (r : Option (Bor PackageData)) → Found Place ps p r → Against (referred_packages vs) p r
against-place {vs} {archs} {ps} v p bare None none =
    ap (λ b. cond b (is_vouched Version (referred_packages vs) p && not (is_vouched Archive (referred_packages vs) p)) (is_vouched Place (referred_packages vs) p)) bare
    ∙ vouched-in Place v ps v.places p ∙ none
against-place {vs} {archs} {ps} v p bare (Some o) found = (
  ap (λ b. cond b (is_vouched Version (referred_packages vs) p && not (is_vouched Archive (referred_packages vs) p)) (is_vouched Place (referred_packages vs) p)) bare
      ∙ vouched-in Place v ps v.places p ∙ any-there (is_alike Place p) (referred_packages ps) o.now found.0 found.1,
  founded v ps v.places o.now p found.0 (place-version p o.now found.1),
  known-in vs ps v.places o.now found.0,
)

-- with a checksum that an old package has
pub against-archive : {vs archs ps : List (Bor PackageData)} → AreVouchers vs archs ps → (p : PackageData) → is_checksummed p ≡ true
    → (o : PackageData) → Contains (referred_packages archs) o → is_alike Archive p o ≡ true → is_suspect (referred_packages vs) p ≡ false
against-archive {vs} {archs} {ps} v p has o there like =
    ap (λ b. cond b (is_vouched Version (referred_packages vs) p && not (is_vouched Archive (referred_packages vs) p)) (is_vouched Place (referred_packages vs) p)) has
    ∙ ap (λ b. is_vouched Version (referred_packages vs) p && not b) (vouched-in Archive v archs v.archives p ∙ any-there (is_alike Archive p) (referred_packages archs) o there like)
    ∙ and-false (is_vouched Version (referred_packages vs) p)
  where
    and-false : (b : Bool) → (b && false) ≡ false
    and-false true = refl
    and-false false = refl

-- with a checksum that no old package has
pub against-version : {vs archs ps : List (Bor PackageData)} → AreVouchers vs archs ps → (p : PackageData) → is_checksummed p ≡ true
    → list_any (is_alike Archive p) (referred_packages archs) ≡ false
    → (r : Option (Bor PackageData)) → Found Version vs p r → Against (referred_packages vs) p r
against-version {vs} {archs} {ps} v p has none r found = by r found
  where
    known : is_suspect (referred_packages vs) p ≡ is_vouched Version (referred_packages vs) p
    known =
        ap (λ b. cond b (is_vouched Version (referred_packages vs) p && not (is_vouched Archive (referred_packages vs) p)) (is_vouched Place (referred_packages vs) p)) has
        ∙ ap (λ b. is_vouched Version (referred_packages vs) p && not b) (vouched-in Archive v archs v.archives p ∙ none)
        ∙ and-true (is_vouched Version (referred_packages vs) p)
      where
        and-true : (b : Bool) → (b && true) ≡ b
        and-true true = refl
        and-true false = refl

    by : (r : Option (Bor PackageData)) → Found Version vs p r → Against (referred_packages vs) p r
    by None e = known ∙ vouched-in Version v vs (IsPermutation-refl vs) p ∙ e
    by (Some o) f = (
      known ∙ vouched-in Version v vs (IsPermutation-refl vs) p ∙ any-there (is_alike Version p) (referred_packages vs) o.now f.0 f.1,
      founded v vs (IsPermutation-refl vs) o.now p f.0 f.1,
      f.0,
    )

-- an altered pair
pub altered-founded : (old new : PackageData) → is_altered old new ≡ true → is_alike Name old new ≡ true → IsFounded old new
altered-founded old new altered name =
    let version = and-first (have_one_version old new) _ altered in (
      and-first (is_checksummed old) _ (and-second (have_one_version old new) _ altered),
      eq-both (text_cmp old.name new.name) (version_cmp old.version new.version) name version,
    )
  where
    and-second : (a b : Bool) → (a && b) ≡ true → b ≡ true
    and-second true b h = h
    and-second false b h = cc h

-- ---- made

filtered : {X : Type 0} (q : X → Bool) (xs : List X) → All (λ x. q x ≡ true) (filter q xs)
filtered q [] = All-nil (λ x. q x ≡ true)
filtered {X} q (x ∷ xs) = go (q x) refl (filtered q xs)
  where
    go : (b : Bool) → q x ≡ b → All (λ y. q y ≡ true) (filter q xs) → All (λ y. q y ≡ true) (cond b (x ∷ filter q xs) (filter q xs))
    go true hit rest = All-cons (λ y. q y ≡ true) x (filter q xs) hit rest
    go false miss rest = rest

unmapped : (P : PackageData → Type 0) (bs : List (Bor PackageData)) → All P (referred_packages bs) → All (λ (b : Bor PackageData). P b.now) bs
unmapped P [] all = All-nil (λ (b : Bor PackageData). P b.now)
unmapped P (b ∷ bs) all = All-cons (λ (b : Bor PackageData). P b.now) b bs (All-head P b.now (referred_packages bs) all) (unmapped P bs (All-tail P b.now (referred_packages bs) all))

pub vouchers-made : (olds : List PackageData) (all vs archs ps : List (Bor PackageData)) → referred_packages all ≡ filter is_checksummed olds
    → IsPermutation all vs → IsPermutation all archs → IsPermutation all ps
    → IsSorted (cmp_at Version) vs → IsSorted (cmp_at Archive) archs → IsSorted (cmp_at Place) ps → AreVouchers vs archs ps
vouchers-made olds all vs archs ps made pv pa pp sv sa sp = record {
  checked = All-permutation (λ (b : Bor PackageData). is_checksummed b.now ≡ true) all vs pv
      (unmapped (λ q. is_checksummed q ≡ true) all (subst (λ zs. All (λ q. is_checksummed q ≡ true) zs) (sym made) (filtered is_checksummed olds)));
  archives = IsPermutation-trans vs all archs (IsPermutation-sym all vs pv) pa;
  places = IsPermutation-trans vs all ps (IsPermutation-sym all vs pv) pp;
  versions_sorted = sv;
  archives_sorted = sa;
  places_sorted = sp;
}

pub vouchers-of : (olds : List PackageData) (all vs : List (Bor PackageData)) → referred_packages all ≡ filter is_checksummed olds → IsPermutation all vs
    → IsPermutation (filter is_checksummed olds) (referred_packages vs)
vouchers-of olds all vs made perm = subst (λ zs. IsPermutation zs (referred_packages vs)) made (IsPermutation-map (λ (b : Bor PackageData). b.now) all vs perm)

-- ---- one more

pub filter-hit : {X : Type 0} (q : X → Bool) (xs : List X) (x : X) → q x ≡ true → filter q (xs ++ x ∷ []) ≡ filter q xs ++ x ∷ []
filter-hit {X} q xs x hit = filter-append q xs (x ∷ []) ∙ ap (λ (b : Bool). filter q xs ++ cond b (x ∷ []) []) hit

pub filter-miss : {X : Type 0} (q : X → Bool) (xs : List X) (x : X) → q x ≡ false → filter q (xs ++ x ∷ []) ≡ filter q xs
filter-miss {X} q xs x miss = filter-append q xs (x ∷ []) ∙ ap (λ (b : Bool). filter q xs ++ cond b (x ∷ []) []) miss ∙ append-nil (filter q xs)

pub record AlarmsSo (known told : List PackageData) (all : List (Bor PackageData × Bor PackageData)) : Type 0 where
  pub founded : All (λ a. IsFounded a.0 a.1) (referred_pairs all)
  pub among : All (λ a. Contains known a.0) (referred_pairs all)
  pub told_all : seconds (referred_pairs all) ≡ told

so-hit : (known told : List PackageData) (all all' : List (Bor PackageData × Bor PackageData)) (o n : Bor PackageData)
    → AlarmsSo known told all → all' ≡ all ++ (o, n) ∷ [] → IsFounded o.now n.now → Contains known o.now → AlarmsSo known (told ++ n.now ∷ []) all'
so-hit known told all all' o n so is h there = rw is record {
  founded = subst (λ zs. All (λ (a : PackageData × PackageData). IsFounded a.0 a.1) zs) (sym (map-append at all ((o, n) ∷ [])))
      (All-push (λ (a : PackageData × PackageData). IsFounded a.0 a.1) (referred_pairs all) (o.now, n.now) so.founded h);
  among = subst (λ zs. All (λ (a : PackageData × PackageData). Contains known a.0) zs) (sym (map-append at all ((o, n) ∷ [])))
      (All-push (λ (a : PackageData × PackageData). Contains known a.0) (referred_pairs all) (o.now, n.now) so.among there);
  told_all = ap (λ zs. seconds zs) (map-append at all ((o, n) ∷ [])) ∙ map-append (λ (a : PackageData × PackageData). a.1) (referred_pairs all) ((o.now, n.now) ∷ [])
      ∙ ap (λ zs. zs ++ n.now ∷ []) so.told_all;
}
  where
    at : Bor PackageData × Bor PackageData → PackageData × PackageData
    at p = (p.0.now, p.1.now)

pub added-hit : (known : List PackageData) (items : List (Bor PackageData)) (i : ℕ) (x o : Bor PackageData) (all all' : List (Bor PackageData × Bor PackageData))
    → i < length items → x ≡ get_or items i x → AlarmsSo known (filter (is_suspect known) (referred_packages (take i items))) all
    → all' ≡ all ++ (o, x) ∷ [] → is_suspect known x.now ≡ true → IsFounded o.now x.now → Contains known o.now
    → AlarmsSo known (filter (is_suspect known) (referred_packages (take (i + 1) items))) all'
added-hit known items i x o all all' lt at so is hit h there =
    subst (λ zs. AlarmsSo known zs all')
    (sym (ap (λ zs. filter (is_suspect known) (referred_packages zs)) (one-more items i x lt at) ∙ ap (filter (is_suspect known)) (map-append (λ (b : Bor PackageData). b.now) (take i items) (x ∷ []))
    ∙ filter-hit (is_suspect known) (referred_packages (take i items)) x.now hit))
    (so-hit known _ all all' o x so is h there)

pub added-miss : (known : List PackageData) (items : List (Bor PackageData)) (i : ℕ) (x : Bor PackageData) (all : List (Bor PackageData × Bor PackageData))
    → i < length items → x ≡ get_or items i x → AlarmsSo known (filter (is_suspect known) (referred_packages (take i items))) all
    → is_suspect known x.now ≡ false
    → AlarmsSo known (filter (is_suspect known) (referred_packages (take (i + 1) items))) all
added-miss known items i x all lt at so miss =
    subst (λ zs. AlarmsSo known zs all)
    (sym (ap (λ zs. filter (is_suspect known) (referred_packages zs)) (one-more items i x lt at) ∙ ap (filter (is_suspect known)) (map-append (λ (b : Bor PackageData). b.now) (take i items) (x ∷ []))
    ∙ filter-miss (is_suspect known) (referred_packages (take i items)) x.now miss))
    so

pub pairs-hit : (known : List PackageData) (items : List (Bor PackageData × Bor PackageData)) (i : ℕ) (x : Bor PackageData × Bor PackageData) (o : Bor PackageData)
    (all all' : List (Bor PackageData × Bor PackageData))
    → i < length items → x ≡ get_or items i x → AlarmsSo known (seconds (filter (is_alarm known) (referred_pairs (take i items)))) all
    → all' ≡ all ++ (o, x.1) ∷ [] → is_alarm known (x.0.now, x.1.now) ≡ true → IsFounded o.now x.1.now → Contains known o.now
    → AlarmsSo known (seconds (filter (is_alarm known) (referred_pairs (take (i + 1) items)))) all'
pairs-hit known items i x o all all' lt at so is hit h there =
    let p : PackageData × PackageData = (x.0.now, x.1.now) in
    let before : List (PackageData × PackageData) = referred_pairs (take i items) in
    subst (λ zs. AlarmsSo known zs all')
    (sym (ap (λ zs. seconds (filter (is_alarm known) (referred_pairs zs))) (one-more items i x lt at)
    ∙ ap (λ zs. seconds (filter (is_alarm known) zs)) (map-append (λ (q : Bor PackageData × Bor PackageData). (q.0.now, q.1.now)) (take i items) (x ∷ []))
    ∙ ap (λ zs. seconds zs) (filter-hit (is_alarm known) before p hit) ∙ map-append (λ (q : PackageData × PackageData). q.1) (filter (is_alarm known) before) (p ∷ [])))
    (so-hit known _ all all' o x.1 so is h there)

pub pairs-miss : (known : List PackageData) (items : List (Bor PackageData × Bor PackageData)) (i : ℕ) (x : Bor PackageData × Bor PackageData)
    (all : List (Bor PackageData × Bor PackageData))
    → i < length items → x ≡ get_or items i x → AlarmsSo known (seconds (filter (is_alarm known) (referred_pairs (take i items)))) all
    → is_alarm known (x.0.now, x.1.now) ≡ false
    → AlarmsSo known (seconds (filter (is_alarm known) (referred_pairs (take (i + 1) items)))) all
pairs-miss known items i x all lt at so miss =
    let p : PackageData × PackageData = (x.0.now, x.1.now) in
    let before : List (PackageData × PackageData) = referred_pairs (take i items) in
    subst (λ zs. AlarmsSo known zs all)
    (sym (ap (λ zs. seconds (filter (is_alarm known) (referred_pairs zs))) (one-more items i x lt at)
    ∙ ap (λ zs. seconds (filter (is_alarm known) zs)) (map-append (λ (q : Bor PackageData × Bor PackageData). (q.0.now, q.1.now)) (take i items) (x ∷ []))
    ∙ ap (λ zs. seconds zs) (filter-miss (is_alarm known) before p miss)))
    so

-- each pair that is altered is there itself
abbrev pub AreOwn : List (PackageData × PackageData) → List (Bor PackageData × Bor PackageData) → Type 0
AreOwn pairs all = All (λ p. is_altered p.0 p.1 ≡ true → Contains (referred_pairs all) p) pairs

own-more : (items : List (Bor PackageData × Bor PackageData)) (i : ℕ) (x : Bor PackageData × Bor PackageData) (all : List (Bor PackageData × Bor PackageData))
    → i < length items → x ≡ get_or items i x → AreOwn (referred_pairs (take i items)) all
    → (is_altered x.0.now x.1.now ≡ true → Contains (referred_pairs all) (x.0.now, x.1.now))
    → AreOwn (referred_pairs (take (i + 1) items)) all
own-more items i x all lt at own here =
    subst (λ zs. AreOwn zs all)
    (sym (ap referred_pairs (one-more items i x lt at) ∙ map-append (λ (q : Bor PackageData × Bor PackageData). (q.0.now, q.1.now)) (take i items) (x ∷ [])))
    (All-push (λ (p : PackageData × PackageData). is_altered p.0 p.1 ≡ true → Contains (referred_pairs all) p) (referred_pairs (take i items)) (x.0.now, x.1.now) own here)

-- an alarm whose old package is that of the pair where the pair is altered
pub own-hit : (items : List (Bor PackageData × Bor PackageData)) (i : ℕ) (x : Bor PackageData × Bor PackageData) (o : Bor PackageData)
    (all all' : List (Bor PackageData × Bor PackageData))
    → i < length items → x ≡ get_or items i x → AreOwn (referred_pairs (take i items)) all → all' ≡ all ++ (o, x.1) ∷ []
    → (is_altered x.0.now x.1.now ≡ true → o.now ≡ x.0.now)
    → AreOwn (referred_pairs (take (i + 1) items)) all'
own-hit items i x o all all' lt at own is mine =
    let split : referred_pairs all' ≡ referred_pairs all ++ (o.now, x.1.now) ∷ [] = ap referred_pairs is ∙ map-append (λ (q : Bor PackageData × Bor PackageData). (q.0.now, q.1.now)) all ((o, x.1) ∷ []) in
    own-more items i x all' lt at
    (All-weaker (λ (p : PackageData × PackageData). is_altered p.0 p.1 ≡ true → Contains (referred_pairs all) p) (λ (p : PackageData × PackageData). is_altered p.0 p.1 ≡ true → Contains (referred_pairs all') p)
    (λ p there altered. subst (λ zs. Contains zs p) (sym split) (Contains-append_left (referred_pairs all) ((o.now, x.1.now) ∷ []) p (there altered))) (referred_pairs (take i items)) own)
    (λ altered. subst (λ zs. Contains zs (x.0.now, x.1.now)) (sym split)
    (subst (λ (q : PackageData). Contains (referred_pairs all ++ (q, x.1.now) ∷ []) (x.0.now, x.1.now)) (sym (mine altered)) (Contains-push (referred_pairs all) (x.0.now, x.1.now))))

-- no alarm
pub own-miss : (known : List PackageData) (items : List (Bor PackageData × Bor PackageData)) (i : ℕ) (x : Bor PackageData × Bor PackageData)
    (all : List (Bor PackageData × Bor PackageData))
    → i < length items → x ≡ get_or items i x → AreOwn (referred_pairs (take i items)) all → is_alarm known (x.0.now, x.1.now) ≡ false
    → AreOwn (referred_pairs (take (i + 1) items)) all
own-miss known items i x all lt at own miss =
    own-more items i x all lt at own (λ altered. absurd (true≢false (sym (or-true (is_altered x.0.now x.1.now) (is_suspect known x.1.now) altered) ∙ miss)))
  where
    or-true : (a b : Bool) → a ≡ true → (a || b) ≡ true
    or-true true b h = refl
    or-true false b h = cc h

-- one list behind another
pub alarms-joined : (known : List PackageData) (pairs : List (PackageData × PackageData)) (added : List PackageData) (one other all : List (Bor PackageData × Bor PackageData))
    → AlarmsSo known (seconds (filter (is_alarm known) pairs)) one → AreOwn pairs one → AlarmsSo known (filter (is_suspect known) added) other → all ≡ one ++ other
    → AreAlarms known pairs added (referred_pairs all)
alarms-joined known pairs added one other all a own b is =
    let split : referred_pairs all ≡ referred_pairs one ++ referred_pairs other = ap referred_pairs is ∙ map-append (λ (q : Bor PackageData × Bor PackageData). (q.0.now, q.1.now)) one other in
    rw split record {
      founded = All-append (λ (p : PackageData × PackageData). IsFounded p.0 p.1) (referred_pairs one) (referred_pairs other) a.founded b.founded;
      among = All-append (λ (p : PackageData × PackageData). Contains known p.0) (referred_pairs one) (referred_pairs other) a.among b.among;
      own = All-weaker (λ (p : PackageData × PackageData). is_altered p.0 p.1 ≡ true → Contains (referred_pairs one) p) (λ (p : PackageData × PackageData). is_altered p.0 p.1 ≡ true → Contains (referred_pairs one ++ referred_pairs other) p)
          (λ p there altered. Contains-append_left (referred_pairs one) (referred_pairs other) p (there altered)) pairs own;
      told = map-append (λ (p : PackageData × PackageData). p.1) (referred_pairs one) (referred_pairs other) ∙ (λ i. a.told_all i ++ b.told_all i);
    }

-- what a function makes of a value that may be absent is there where the value is
pub some-map : {X Y : Type 0} (f : X → Y) (x : Option X) → is_some (option_map f x) ≡ is_some x
some-map f None = refl
some-map f (Some x) = refl
