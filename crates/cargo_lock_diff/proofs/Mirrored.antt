-- As many lines report changes there and back.
use Rattle.std.proofs.Common.{◌≡◌, ℕ, ◌+◌, Bool, true, false, not, cond, List, [], ◌∷◌, Option, Some, None, map, count_by, length, refl, ap, sym, ◌∙◌, arith}
use Rattle.std.specs.Prelude.{◌&&◌, ◌||◌, is_some}
use Rattle.std.specs.Cmp.{Equal-is, IsEquivalence, eq_by_cmp_equiv, on_total}
use Rattle.std.specs.Cmp.Lexicographic.{nat_list_cmp_total, options_total}
use Rattle.std.specs.List.{filter}
use Rattle.std.specs.Option.{option_cmp}
use Rattle.std.specs.Ordering.{is_eq}
use Rattle.std.proofs.lemmas.List.{length-append, length-map}
use Rattle.std.proofs.lemmas.List.Sorted.{IsPermutation-refl}
use Rattle.std.proofs.lemmas.List.Sums.{length-filter}
use Rattle.cargo_lock_parts.specs.Identity.{PackageData}
use Rattle.cargo_lock_parts.specs.IdentityLaws.{tied-first, tied-second, version_total}
use Rattle.cargo_lock_parts.specs.SourceKey.{text_cmp}
use Rattle.cargo_lock_diff.specs.declared.accepted.Accepted.{Accepted}
use Rattle.cargo_lock_diff.specs.declared.change.Aspect.{Aspect}
use Rattle.cargo_lock_diff.specs.declared.change.Aspect.TheVariants as aspect
use Rattle.cargo_lock_diff.specs.declared.commits.Commits.{Commits}
use Rattle.cargo_lock_diff.specs.declared.likeness.Likeness.TheVariants.{Whole}
use Rattle.cargo_lock_diff.specs.Alarm.{is_alarm, is_altered, is_suspect}
use Rattle.cargo_lock_diff.specs.Change.{Added, Alarm, NewSource, Removed, change_in, changes_in, changes_of, differs_in, change_line_by, strange_change}
use Rattle.cargo_lock_diff.specs.Difference.{DifferenceData, IsDifferenceBut, count_of_package}
use Rattle.cargo_lock_diff.specs.Keys.{whole_key}
use Rattle.cargo_lock_diff.specs.Likeness.{is_alike, likeness_cmp}
use Rattle.cargo_lock_diff.specs.Matching.{seconds}
use Rattle.cargo_lock_diff.specs.Mirror.{AsManyLinesThereAndBack, alarms_beside, line_count}
use Rattle.cargo_lock_diff.specs.Pairing.{exchanged_pair}
use Rattle.cargo_lock_diff.specs.Same.{have_one_checksum, have_one_place, have_one_replacement, have_one_version}
use Rattle.cargo_lock_diff.specs.Stranger.{is_strange_pair, is_stranger}
use Rattle.cargo_lock_diff.proofs.Counts.{count-cons}
use Rattle.cargo_lock_diff.proofs.Keys.{whole_laws}
use Rattle.cargo_lock_diff.proofs.OneLine.{each-change-is-one-line}
use Rattle.cargo_lock_diff.proofs.Orders.{place_total, placed_identity_total}
use Rattle.cargo_lock_diff.proofs.Told.{pairing_mirrored}
use Rattle.cargo_lock_diff.proofs.Unordered.{SameCounts, count-map, count-same, order_does_not_count}
use Rattle.lists.proofs.Tests.{and-left, and-right}

-- ---- counts by what is alike

count-all : {X : Type 0} (xs : List X) → count_by (λ (x : X). true) xs ≡ length xs
count-all [] = refl
count-all (x ∷ xs) =
    let one = count-cons (λ y. true) x xs in
    let rest = count-all xs in
    omega (arith, one, rest)

-- as many are left
length-same : (xs ys : List PackageData) → ((p : PackageData) → count_of_package p xs ≡ count_of_package p ys) → length xs ≡ length ys
length-same xs ys same = sym (count-all xs) ∙ count-same (is_alike Whole) whole_laws (λ (x : PackageData). true) (λ x y h. refl) xs ys same ∙ count-all ys

-- pairs whose packages are wholly alike
abbrev both-alike : PackageData × PackageData → PackageData × PackageData → Bool
both-alike p q = is_alike Whole p.0 q.0 && is_alike Whole p.1 q.1

both_laws : IsEquivalence both-alike
both_laws = record {
  refl = λ p. λ i. whole_laws.refl p.0 i && whole_laws.refl p.1 i;
  symm = λ p q. λ i. whole_laws.symm p.0 q.0 i && whole_laws.symm p.1 q.1 i;
  congr = λ p q r e. λ i. whole_laws.congr p.0 q.0 r.0 (and-left _ _ e) i && whole_laws.congr p.1 q.1 r.1 (and-right _ _ e) i;
}

-- ---- what packages have in common does not distinguish the wholly alike

version_laws : IsEquivalence have_one_version
version_laws = eq_by_cmp_equiv (on_total (λ (p : PackageData). p.version) version_total)

place_laws : IsEquivalence have_one_place
place_laws = eq_by_cmp_equiv (on_total (λ (p : PackageData). p.source) (options_total place_total))

checksum_laws : IsEquivalence have_one_checksum
checksum_laws = eq_by_cmp_equiv (on_total (λ (p : PackageData). p.checksum) (options_total nat_list_cmp_total))

replacement_laws : IsEquivalence have_one_replacement
replacement_laws = eq_by_cmp_equiv (on_total (λ (p : PackageData). p.replace) (options_total placed_identity_total))

whole-replacement : (a b : PackageData) → is_alike Whole a b ≡ true → have_one_replacement a b ≡ true
whole-replacement a b h = (Equal-is _).1 (tied-second _ _ ((Equal-is (likeness_cmp Whole a b)).0 h))

whole-checksum : (a b : PackageData) → is_alike Whole a b ≡ true → have_one_checksum a b ≡ true
whole-checksum a b h = (Equal-is _).1 (tied-second _ _ (tied-first _ _ ((Equal-is (likeness_cmp Whole a b)).0 h)))

whole-source : (a b : PackageData) → is_alike Whole a b ≡ true → have_one_place a b ≡ true
whole-source a b h = (Equal-is _).1 (tied-second _ _ (tied-first _ _ (tied-first _ _ ((Equal-is (likeness_cmp Whole a b)).0 h))))

whole-version : (a b : PackageData) → is_alike Whole a b ≡ true → have_one_version a b ≡ true
whole-version a b h = (Equal-is _).1 (tied-second _ _ (tied-first _ _ (tied-first _ _ (tied-first _ _ ((Equal-is (likeness_cmp Whole a b)).0 h)))))

-- a test that is coarser tells pairs that are wholly alike the same
same-told : (E : PackageData → PackageData → Bool) → IsEquivalence E → ((a b : PackageData) → is_alike Whole a b ≡ true → E a b ≡ true)
    → (p q : PackageData × PackageData) → both-alike p q ≡ true → E p.0 p.1 ≡ E q.0 q.1
same-told E laws coarser p q h =
    let first = coarser p.0 q.0 (and-left _ _ h) in
    let second = coarser p.1 q.1 (and-right _ _ h) in
    laws.congr p.0 q.0 p.1 first ∙ laws.symm q.0 p.1 ∙ laws.congr p.1 q.1 q.0 second ∙ laws.symm q.1 q.0

-- ---- what has a line: another source or version, another checksum, another replacement

abbrev moves : PackageData × PackageData → Bool
moves p = not (have_one_version p.0 p.1 && have_one_place p.0 p.1)

abbrev rehashes : PackageData × PackageData → Bool
rehashes p = have_one_version p.0 p.1 && not (have_one_checksum p.0 p.1)

abbrev replaces : PackageData × PackageData → Bool
replaces p = have_one_version p.0 p.1 && not (have_one_replacement p.0 p.1)

abbrev pub told-lines : DifferenceData → ℕ
told-lines d = count_by moves d.pairs + (count_by rehashes d.pairs + (count_by replaces d.pairs + (length d.removed + length d.added)))

-- ---- the lines of a difference

number : Bool → ℕ
number b = cond b 1 0

-- counts of three tests are those of a fourth
count-three : {X : Type 0} (a b c t : X → Bool) → ((x : X) → cond (a x) 1 0 + (cond (b x) 1 0 + cond (c x) 1 0) ≡ cond (t x) 1 0)
    → (xs : List X) → count_by a xs + (count_by b xs + count_by c xs) ≡ count_by t xs
count-three a b c t same [] = refl
count-three a b c t same (x ∷ xs) =
    let ea = count-cons a x xs in
    let eb = count-cons b x xs in
    let ec = count-cons c x xs in
    let et = count-cons t x xs in
    let e = same x in
    let rest = count-three a b c t same xs in
    omega (arith, ea, eb, ec, et, e, rest)

count-two : {X : Type 0} (a b t : X → Bool) → ((x : X) → cond (a x) 1 0 + cond (b x) 1 0 ≡ cond (t x) 1 0)
    → (xs : List X) → count_by a xs + count_by b xs ≡ count_by t xs
count-two a b t same [] = refl
count-two a b t same (x ∷ xs) =
    let ea = count-cons a x xs in
    let eb = count-cons b x xs in
    let et = count-cons t x xs in
    let e = same x in
    let rest = count-two a b t same xs in
    omega (arith, ea, eb, et, e, rest)

-- what passes a second test among what passes a first
count-filter : {X : Type 0} (p q : X → Bool) (xs : List X) → count_by q (filter p xs) ≡ count_by (λ x. p x && q x) xs
count-filter p q [] = refl
count-filter {X} p q (x ∷ xs) = go (count-filter p q xs) (p x) refl
  where
    go : count_by q (filter p xs) ≡ count_by (λ y. p y && q y) xs → (b : Bool) → p x ≡ b
        → count_by q (cond (p x) (x ∷ filter p xs) (filter p xs)) ≡ count_by (λ y. p y && q y) (x ∷ xs)
    go rest true hit =
        let start = ap {B = ℕ} (λ b. count_by q (cond b (x ∷ filter p xs) (filter p xs))) hit in
        let head = count-cons q x (filter p xs) in
        let both = count-cons (λ y. p y && q y) x xs in
        let same = ap {B = ℕ} (λ b. cond (b && q x) 1 0) hit in
        omega (arith, start, head, rest, both, same)
    go rest false miss =
        let start = ap {B = ℕ} (λ b. count_by q (cond b (x ∷ filter p xs) (filter p xs))) miss in
        let both = count-cons (λ y. p y && q y) x xs in
        let none = ap {B = ℕ} (λ b. cond (b && q x) 1 0) miss in
        omega (arith, start, rest, both, none)

changes-count : (one : Aspect) (pairs : List (PackageData × PackageData)) → length (changes_in one pairs) ≡ count_by (differs_in one) pairs
changes-count one pairs = length-map (filter (differs_in one) pairs) (change_in one) ∙ length-filter (differs_in one) pairs

-- a pair that is strange has another place, and one line in the place of that of its source or version
move-once : (pl v s : Bool)
    → cond (not pl && s) 1 0 + (cond (not (not pl && s) && (v && not pl)) 1 0 + cond (not (not pl && s) && not v) 1 0) ≡ cond (not (v && pl)) 1 0
move-once true true s = refl
move-once true false s = refl
move-once false true true = refl
move-once false true false = refl
move-once false false true = refl
move-once false false false = refl

-- one line of a checksum
rehash-once : (v pl : Bool) (x y : Option (List ℕ))
    → cond (v && ((not (is_some x) && is_some y) || (is_some x && (not (is_some y) && not pl)))) 1 0
    + cond (v && (is_some x && cond (is_some y) (not (is_eq (option_cmp text_cmp x y))) pl)) 1 0
    ≡ cond (v && not (is_eq (option_cmp text_cmp x y))) 1 0
rehash-once false pl x y = refl
rehash-once true pl None None = refl
rehash-once true pl None (Some y) = refl
rehash-once true true (Some x) None = refl
rehash-once true false (Some x) None = refl
rehash-once true pl (Some x) (Some y) = omega arith

-- an alarm is of an altered pair or stands beside
alarm-once : (a s : Bool) → cond a 1 0 + cond (s && not a) 1 0 ≡ cond (a || s) 1 0
alarm-once true true = refl
alarm-once true false = refl
alarm-once false true = refl
alarm-once false false = refl

lines-of : (accepted : List Accepted) (olds news : List PackageData) (d : DifferenceData) → IsDifferenceBut accepted olds news d
    → length (changes_of d) ≡ told-lines d + alarms_beside olds d
lines-of accepted olds news d h =
    let strange = is_strange_pair accepted olds in
    let usual : PackageData × PackageData → Bool = λ p. not (is_strange_pair accepted olds p) in
    let e_alarms : length d.alarms ≡ count_by (is_alarm olds) d.pairs + count_by (is_suspect olds) d.added
    = sym (length-map d.alarms (λ (p : PackageData × PackageData). p.1)) ∙ ap length h.alarmed.told
    ∙ length-append (seconds (filter (is_alarm olds) d.pairs)) (filter (is_suspect olds) d.added)
    ∙ (λ i. (length-map (filter (is_alarm olds) d.pairs) (λ (p : PackageData × PackageData). p.1) ∙ length-filter (is_alarm olds) d.pairs) i
    + length-filter (is_suspect olds) d.added i) in
    let e_strange : length d.strange ≡ count_by strange d.pairs = ap length h.estranged.are_strange ∙ length-filter strange d.pairs in
    let e_source : length (changes_in aspect.Source d.usual) ≡ count_by (λ p. usual p && differs_in aspect.Source p) d.pairs
    = changes-count aspect.Source d.usual ∙ ap (count_by (differs_in aspect.Source)) h.estranged.are_usual ∙ count-filter usual (differs_in aspect.Source) d.pairs in
    let e_version : length (changes_in aspect.Version d.usual) ≡ count_by (λ p. usual p && differs_in aspect.Version p) d.pairs
    = changes-count aspect.Version d.usual ∙ ap (count_by (differs_in aspect.Version)) h.estranged.are_usual ∙ count-filter usual (differs_in aspect.Version) d.pairs in
    let e_checksum = changes-count aspect.Checksum d.pairs in
    let e_replacement = changes-count aspect.Replacement d.pairs in
    let moved = count-three strange (λ p. usual p && differs_in aspect.Source p) (λ p. usual p && differs_in aspect.Version p) moves
    (λ p. move-once (have_one_place p.0 p.1) (have_one_version p.0 p.1) (is_stranger accepted olds p.1)) d.pairs in
    let rehashed = count-two (differs_in aspect.Checksum) (λ p. is_altered p.0 p.1) rehashes
    (λ p. rehash-once (have_one_version p.0 p.1) (have_one_place p.0 p.1) p.0.checksum p.1.checksum) d.pairs in
    let alarmed = count-two (λ p. is_altered p.0 p.1) (λ p. is_suspect olds p.1 && not (is_altered p.0 p.1)) (is_alarm olds)
    (λ p. alarm-once (is_altered p.0 p.1) (is_suspect olds p.1)) d.pairs in
    let l_alarms = length-map d.alarms (λ (a : PackageData × PackageData). Alarm a.0 a.1) in
    let l_strange = length-map d.strange strange_change in
    let l_came = length-map d.came (λ (a : PackageData × PackageData). NewSource a.0 a.1) in
    let l_removed = length-map d.removed Removed in
    let l_added = length-map d.added Added in
    simp length-append (omega (arith, e_alarms, e_strange, e_source, e_version, e_checksum, e_replacement, moved, rehashed, alarmed, l_alarms, l_strange, l_came, l_removed, l_added))

-- ---- there and back

moves-mirrored : (p : PackageData × PackageData) → moves (exchanged_pair p) ≡ moves p
moves-mirrored p = λ i. not (version_laws.symm p.1 p.0 i && place_laws.symm p.1 p.0 i)

rehashes-mirrored : (p : PackageData × PackageData) → rehashes (exchanged_pair p) ≡ rehashes p
rehashes-mirrored p = λ i. version_laws.symm p.1 p.0 i && not (checksum_laws.symm p.1 p.0 i)

replaces-mirrored : (p : PackageData × PackageData) → replaces (exchanged_pair p) ≡ replaces p
replaces-mirrored p = λ i. version_laws.symm p.1 p.0 i && not (replacement_laws.symm p.1 p.0 i)

-- the pairs there are counted as those back
pairs-mirrored : (q : PackageData × PackageData → Bool) → ((x y : PackageData × PackageData) → both-alike x y ≡ true → q x ≡ q y)
    → ((p : PackageData × PackageData) → q (exchanged_pair p) ≡ q p)
    → (pairs back : List (PackageData × PackageData)) → SameCounts both-alike pairs (map exchanged_pair back)
    → count_by q pairs ≡ count_by q back
pairs-mirrored q respects mirrored pairs back same =
    count-same both-alike both_laws q respects pairs (map exchanged_pair back) same
    ∙ count-map q exchanged_pair back ∙ (λ i. count_by (λ p. mirrored p i) back)

told-mirrored : (accepted accepted' : List Accepted) (olds news : List PackageData) (d back : DifferenceData)
    → IsDifferenceBut accepted olds news d → IsDifferenceBut accepted' news olds back → told-lines d ≡ told-lines back
told-mirrored accepted accepted' olds news d back h k =
    let mirror = pairing_mirrored news olds back.kept back.pairs back.removed back.added k.paired in
    let same = order_does_not_count olds news olds news d.kept d.pairs (map exchanged_pair back.kept) (map exchanged_pair back.pairs)
    d.removed d.added back.added back.removed h.paired mirror (IsPermutation-refl (map whole_key olds)) (IsPermutation-refl (map whole_key news)) in
    let counts : SameCounts both-alike d.pairs (map exchanged_pair back.pairs) = λ p. same.0 p.0 p.1 in
    let m = pairs-mirrored moves
    (λ x y e. λ i. not (same-told have_one_version version_laws whole-version x y e i && same-told have_one_place place_laws whole-source x y e i))
    moves-mirrored d.pairs back.pairs counts in
    let r = pairs-mirrored rehashes
    (λ x y e. λ i. same-told have_one_version version_laws whole-version x y e i && not (same-told have_one_checksum checksum_laws whole-checksum x y e i))
    rehashes-mirrored d.pairs back.pairs counts in
    let s = pairs-mirrored replaces
    (λ x y e. λ i. same-told have_one_version version_laws whole-version x y e i && not (same-told have_one_replacement replacement_laws whole-replacement x y e i))
    replaces-mirrored d.pairs back.pairs counts in
    let a = length-same d.removed back.added same.1 in
    let b = length-same d.added back.removed same.2 in
    omega (arith, m, r, s, a, b)

line-count : (commits : Commits) (d : DifferenceData) → line_count commits d ≡ length (changes_of d)
line-count commits d = ap length (each-change-is-one-line commits (changes_of d)) ∙ length-map (changes_of d) (change_line_by commits)

pub as-many-lines : AsManyLinesThereAndBack
as-many-lines commits accepted accepted' olds news d back h k =
    let there = line-count commits d ∙ lines-of accepted olds news d h in
    let home = line-count commits back ∙ lines-of accepted' news olds back k in
    let same = told-mirrored accepted accepted' olds news d back h k in
    omega (arith, there, home, same)
