-- Laws of differences: mirrored pairs, what is left alone, and no change where the keys are permuted.
use Rattle.std.proofs.Common.{◌≡◌, ℕ, get_or, Bool, true, false, true≢false, not, cond, List, [], ◌∷◌, ◌++◌, Option, Some, None, map, refl, ap, sym, ◌∙◌, subst, IsPermutation, All}
use Rattle.std.specs.Prelude.{◌&&◌, is_some}
use Rattle.std.specs.List.{filter, flat_map}
use Rattle.std.specs.Option.{option_cmp}
use Rattle.std.specs.Ordering.{is_eq, ordering_then}
use Rattle.std.proofs.lemmas.List.{map-append}
use Rattle.std.proofs.lemmas.List.Elements.{All-head, All-map, All-weaker}
use Rattle.std.proofs.lemmas.List.Sorted.{All-permutation, IsPermutation-map}
use Rattle.cargo_lock_parts.specs.Identity.{PackageData}
use Rattle.cargo_lock_parts.specs.IdentityOrder.{version_cmp}
use Rattle.cargo_lock_parts.specs.SourceKey.{text_cmp}
use Rattle.cargo_lock_diff.specs.Place.{place_cmp, placed_identity_cmp}
use Rattle.cargo_lock_diff.specs.declared.change.Aspect.{Aspect}
use Rattle.cargo_lock_diff.specs.declared.change.Aspect.TheVariants as aspect
use Rattle.cargo_lock_diff.specs.declared.likeness.Likeness.TheVariants.{Name, Origin, Version, Line, Place, Whole}
use Rattle.cargo_lock_diff.specs.declared.accepted.Accepted.{Accepted}
use Rattle.cargo_lock_diff.specs.Alarm.{is_alarm, is_altered, is_suspect}
use Rattle.cargo_lock_diff.specs.Change.{Added, Alarm, ChangeData, NewSource, NoneIfPermuted, Removed, change_in, changes_in, changes_of, differs_in, has_lost_checksum, has_new_checksum, strange_change}
use Rattle.cargo_lock_diff.specs.Difference.{DifferenceData, IsDifferenceBut, HasNoChanges, IsPairing, NoneIsLeftAlone, PairingMirrored, turns}
use Rattle.cargo_lock_diff.specs.Likeness.{is_alike}
use Rattle.cargo_lock_diff.specs.Matching.{AreMatched, PassesWithNone, firsts, seconds}
use Rattle.cargo_lock_diff.specs.Pairing.{exchanged_pair}
use Rattle.cargo_lock_diff.specs.Same.{have_one_checksum, have_one_place, have_one_replacement, have_one_version}
use Rattle.cargo_lock_diff.specs.Stranger.{is_strange_pair, is_stranger}
use Rattle.cargo_lock_diff.proofs.Exact.{mirrored_in_turn, none_is_left_in_turn}
use Rattle.cargo_lock_diff.proofs.Finer.{eq-both, names-in-turn, none-name, none-origin, none-place}
use Rattle.cargo_lock_diff.proofs.InTurn.{all_pairs}
use Rattle.cargo_lock_diff.proofs.Keys.{empty_if_permuted, whole_laws}
use Rattle.lists.proofs.Tests.{append-none, map-none}
use Rattle.cargo_lock_diff.proofs.Pairs.{AreAlike, told-apart}
use Rattle.lists.proofs.Tests.{not-false, or-left as or-first}

-- ---- mirrored

firsts-exchanged : (pairs : List (PackageData × PackageData)) → firsts (map exchanged_pair pairs) ≡ seconds pairs
firsts-exchanged [] = refl
firsts-exchanged (p ∷ ps) = ap (λ zs. p.1 ∷ zs) (firsts-exchanged ps)

seconds-exchanged : (pairs : List (PackageData × PackageData)) → seconds (map exchanged_pair pairs) ≡ firsts pairs
seconds-exchanged [] = refl
seconds-exchanged (p ∷ ps) = ap (λ zs. p.0 ∷ zs) (seconds-exchanged ps)

flat-exchanged : (passes : List (List (PackageData × PackageData)))
    → map exchanged_pair (flat_map (λ pass. pass) passes) ≡ flat_map (λ pass. pass) (map (λ pass. map exchanged_pair pass) passes)
flat-exchanged [] = refl
flat-exchanged (p ∷ ps) = map-append exchanged_pair p (flat_map (λ pass. pass) ps) ∙ ap (λ zs. map exchanged_pair p ++ zs) (flat-exchanged ps)

apart-exchanged : (old new : List PackageData) → All (λ o. PassesWithNone (is_alike Whole) o new) old
    → All (λ n. PassesWithNone (is_alike Whole) n old) new
apart-exchanged old new apart = λ i d lt. λ k e within.
    whole_laws.symm (get_or new i d) (get_or old k e) ∙ apart k e within i d lt

matched-exchanged : (olds news : List PackageData) (pairs : List (PackageData × PackageData)) (old new : List PackageData)
    → AreMatched (is_alike Whole) olds news pairs old new → AreMatched (is_alike Whole) news olds (map exchanged_pair pairs) new old
matched-exchanged olds news pairs old new m = record {
  olds_told = subst (λ (zs : List PackageData). IsPermutation news (zs ++ new)) (sym (firsts-exchanged pairs)) m.news_told;
  news_told = subst (λ (zs : List PackageData). IsPermutation olds (zs ++ old)) (sym (seconds-exchanged pairs)) m.olds_told;
  paired = All-map (λ (p : PackageData × PackageData). is_alike Whole p.0 p.1 ≡ true) exchanged_pair pairs
      (All-weaker (λ (p : PackageData × PackageData). is_alike Whole p.0 p.1 ≡ true) (λ (p : PackageData × PackageData). is_alike Whole p.1 p.0 ≡ true)
      (λ p h. whole_laws.symm p.1 p.0 ∙ h) pairs m.paired);
  apart = apart-exchanged old new m.apart;
}

pub pairing_mirrored : PairingMirrored
pairing_mirrored olds news kept pairs removed added h = record {
  old = h.new;
  new = h.old;
  wholly = matched-exchanged olds news kept h.old h.new h.wholly;
  passes = map (λ pass. map exchanged_pair pass) h.passes;
  in_turn = mirrored_in_turn turns h.old h.new h.passes removed added h.in_turn;
  in_all = subst (λ (zs : List (PackageData × PackageData)). IsPermutation zs (map exchanged_pair pairs)) (flat-exchanged h.passes)
      (IsPermutation-map exchanged_pair (flat_map (λ pass. pass) h.passes) pairs h.in_all);
}

-- ---- what is left alone

pub none_is_left_alone : NoneIsLeftAlone
none_is_left_alone accepted olds news d h =
    let t = h.paired.in_turn in (
      none_is_left_in_turn [] Place (Line ∷ Version ∷ Origin ∷ Name ∷ []) none-place h.paired.old h.paired.new h.paired.passes d.removed d.added t,
      none_is_left_in_turn (Place ∷ Line ∷ Version ∷ []) Origin (Name ∷ []) none-origin h.paired.old h.paired.new h.paired.passes d.removed d.added t,
      none_is_left_in_turn (Place ∷ Line ∷ Version ∷ Origin ∷ []) Name [] none-name h.paired.old h.paired.new h.paired.passes d.removed d.added t,
    )

-- ---- each pair has a change

pub names-tie : {olds news : List PackageData} {kept pairs : List (PackageData × PackageData)} {removed added : List PackageData}
    → IsPairing olds news kept pairs removed added → AreAlike Name pairs
names-tie {pairs = pairs} {removed = removed} {added = added} h =
    All-permutation (λ (p : PackageData × PackageData). is_alike Name p.0 p.1 ≡ true) (all_pairs h.passes) pairs h.in_all
    (names-in-turn h.old h.new h.passes removed added h.in_turn)

-- the packages of a pair are not wholly alike
pair-apart : (p : PackageData × PackageData) (ps : List (PackageData × PackageData)) (removed added : List PackageData)
    → All (λ o. PassesWithNone (is_alike Whole) o (seconds (p ∷ ps) ++ added)) (firsts (p ∷ ps) ++ removed) → is_alike Whole p.0 p.1 ≡ false
pair-apart p ps removed added apart =
    All-head (λ n. is_alike Whole p.0 n ≡ false) p.1 (seconds ps ++ added)
    (All-head (λ o. PassesWithNone (is_alike Whole) o (seconds (p ∷ ps) ++ added)) p.0 (firsts ps ++ removed) apart)

filter-head : {X : Type 0} (q : X → Bool) (x : X) (xs : List X) → filter q (x ∷ xs) ≡ [] → q x ≡ false
filter-head {X} q x xs e = go (q x) refl
  where
    go : (b : Bool) → q x ≡ b → q x ≡ false
    go false miss = miss
    go true hit =
        let bad : x ∷ filter q xs ≡ [] = sym (ap (λ b. cond b (x ∷ filter q xs) (filter q xs)) hit) ∙ e in
        cc bad

no-change : (one : Aspect) (p : PackageData × PackageData) (ps : List (PackageData × PackageData)) → changes_in one (p ∷ ps) ≡ [] → differs_in one p ≡ false
no-change one p ps e = filter-head (differs_in one) p ps (map-none (change_in one) (filter (differs_in one) (p ∷ ps)) e)

and-second : (a b : Bool) → a ≡ true → (a && b) ≡ false → b ≡ false
and-second true b h e = e
and-second false b h e = cc h

-- packages that differ in nothing have one checksum
one-checksum : (x y : Option (List ℕ)) (place : Bool) → place ≡ true
    → (not (is_some x) && is_some y) ≡ false
    → (is_some x && cond (is_some y) (not (is_eq (option_cmp text_cmp x y))) place) ≡ false
    → is_eq (option_cmp text_cmp x y) ≡ true
one-checksum None None place there appeared altered = refl
one-checksum None (Some y) place there appeared altered = cc appeared
one-checksum (Some x) None place there appeared altered = absurd (true≢false (sym there ∙ altered))
one-checksum (Some x) (Some y) place there appeared altered = not-false _ altered

-- a pair without a change would be wholly alike
changed : (olds : List PackageData) (p : PackageData × PackageData) → is_alike Name p.0 p.1 ≡ true → is_alike Whole p.0 p.1 ≡ false
    → is_alarm olds p ≡ false → ((one : Aspect) → differs_in one p ≡ false) → ⊥
changed olds p name apart calm same =
    let version : have_one_version p.0 p.1 ≡ true = not-false (have_one_version p.0 p.1) (same aspect.Version) in
    let place : have_one_place p.0 p.1 ≡ true = not-false (have_one_place p.0 p.1) (and-second (have_one_version p.0 p.1) _ version (same aspect.Source)) in
    let replace : have_one_replacement p.0 p.1 ≡ true = not-false (have_one_replacement p.0 p.1) (and-second (have_one_version p.0 p.1) _ version (same aspect.Replacement)) in
    let appeared = or-first (has_new_checksum p.0 p.1) (has_lost_checksum p.0 p.1) (and-second (have_one_version p.0 p.1) _ version (same aspect.Checksum)) in
    let altered = and-second (have_one_version p.0 p.1) _ version (or-first (is_altered p.0 p.1) (is_suspect olds p.1) calm) in
    let checksum : have_one_checksum p.0 p.1 ≡ true = one-checksum p.0.checksum p.1.checksum (have_one_place p.0 p.1) place appeared altered in
    let a = p.0 in
    let b = p.1 in
    let n = text_cmp a.name b.name in
    let v = version_cmp a.version b.version in
    let l = option_cmp place_cmp a.source b.source in
    let k = option_cmp text_cmp a.checksum b.checksum in
    let r = option_cmp placed_identity_cmp a.replace b.replace in
    let whole : is_alike Whole p.0 p.1 ≡ true = eq-both (ordering_then (ordering_then (ordering_then n v) l) k) r
    (eq-both (ordering_then (ordering_then n v) l) k (eq-both (ordering_then n v) l (eq-both n v name version) place) checksum) replace in
    true≢false (sym whole ∙ apart)

no-pairs : (olds : List PackageData) (pairs : List (PackageData × PackageData)) (removed added : List PackageData)
    → AreAlike Name pairs → All (λ o. PassesWithNone (is_alike Whole) o (seconds pairs ++ added)) (firsts pairs ++ removed)
    → filter (is_alarm olds) pairs ≡ [] → ((one : Aspect) → changes_in one pairs ≡ []) → pairs ≡ []
no-pairs olds [] removed added names apart calm same = refl
no-pairs olds (p ∷ ps) removed added names apart calm same =
    absurd (changed olds p (All-head (λ (q : PackageData × PackageData). is_alike Name q.0 q.1 ≡ true) p ps names)
    (pair-apart p ps removed added apart) (filter-head (is_alarm olds) p ps calm) (λ one. no-change one p ps (same one)))

-- where none passes, all do not
all-others : {X : Type 0} (q : X → Bool) (xs : List X) → filter q xs ≡ [] → filter (λ x. not (q x)) xs ≡ xs
all-others q [] e = refl
all-others {X} q (x ∷ xs) e = go (λ rest. all-others q xs rest) (q x) refl
  where
    go : (filter q xs ≡ [] → filter (λ y. not (q y)) xs ≡ xs) → (b : Bool) → q x ≡ b
        → cond (not (q x)) (x ∷ filter (λ y. not (q y)) xs) (filter (λ y. not (q y)) xs) ≡ x ∷ xs
    go others true hit =
        let bad : x ∷ filter q xs ≡ [] = sym (ap (λ b. cond b (x ∷ filter q xs) (filter q xs)) hit) ∙ e in
        cc bad
    go others false miss =
        let rest : filter q xs ≡ [] = sym (ap (λ b. cond b (x ∷ filter q xs) (filter q xs)) miss) ∙ e in
        (λ i. cond (not (miss i)) (x ∷ filter (λ y. not (q y)) xs) (filter (λ y. not (q y)) xs))
        ∙ ap (λ zs. x ∷ zs) (others rest)

no_change-empty : (accepted : List Accepted) (olds news : List PackageData) (d : DifferenceData) → IsDifferenceBut accepted olds news d → changes_of d ≡ [] → HasNoChanges d
no_change-empty accepted olds news d h e =
    let alarms : List ChangeData = map (λ a. Alarm a.0 a.1) d.alarms in
    let strange : List ChangeData = map strange_change d.strange in
    let strangers : List ChangeData = map (λ a. NewSource a.0 a.1) d.came in
    let came : List ChangeData = map Removed d.removed ++ map Added d.added in
    let versions : List ChangeData = changes_in aspect.Version d.usual in
    let replacements : List ChangeData = changes_in aspect.Replacement d.pairs in
    let checksums : List ChangeData = changes_in aspect.Checksum d.pairs in
    let sources : List ChangeData = changes_in aspect.Source d.usual in
    let e1 = append-none (alarms ++ (strange ++ strangers)) (sources ++ (checksums ++ (replacements ++ (versions ++ came)))) e in
    let e2 = append-none sources (checksums ++ (replacements ++ (versions ++ came))) e1.1 in
    let e3 = append-none checksums (replacements ++ (versions ++ came)) e2.1 in
    let e4 = append-none replacements (versions ++ came) e3.1 in
    let e5 = append-none versions came e4.1 in
    let e6 = append-none (map Removed d.removed) (map Added d.added) e5.1 in
    let a1 = append-none alarms (strange ++ strangers) e1.0 in
    let a2 = append-none strange strangers a1.1 in
    let none : d.alarms ≡ [] = map-none (λ (a : PackageData × PackageData). Alarm a.0 a.1) d.alarms a1.0 in
    let untold : seconds (filter (is_alarm olds) d.pairs) ++ filter (is_suspect olds) d.added ≡ [] = sym h.alarmed.told ∙ ap seconds none in
    let calm : filter (is_alarm olds) d.pairs ≡ [] = map-none (λ (a : PackageData × PackageData). a.1) (filter (is_alarm olds) d.pairs)
    (append-none (seconds (filter (is_alarm olds) d.pairs)) (filter (is_suspect olds) d.added) untold).0 in
    let familiar : filter (is_strange_pair accepted olds) d.pairs ≡ [] = sym h.estranged.are_strange ∙ map-none strange_change d.strange a2.0 in
    let usual : d.usual ≡ d.pairs = h.estranged.are_usual ∙ all-others (is_strange_pair accepted olds) d.pairs familiar in
    record {
      pairs = no-pairs olds d.pairs d.removed d.added (names-tie h.paired) (told-apart h.paired) calm
          (by_aspect (sym (ap (changes_in aspect.Source) usual) ∙ e2.0) e3.0 e4.0 (sym (ap (changes_in aspect.Version) usual) ∙ e5.0));
      removed = map-none Removed d.removed e6.0;
      added = map-none Added d.added e6.1;
    }
  where
    by_aspect : changes_in aspect.Source d.pairs ≡ [] → changes_in aspect.Checksum d.pairs ≡ [] → changes_in aspect.Replacement d.pairs ≡ []
        → changes_in aspect.Version d.pairs ≡ [] → (one : Aspect) → changes_in one d.pairs ≡ []
    by_aspect s c r v aspect.Source = s
    by_aspect s c r v aspect.Checksum = c
    by_aspect s c r v aspect.Replacement = r
    by_aspect s c r v aspect.Version = v

empty-no_change : (accepted : List Accepted) (olds news : List PackageData) (d : DifferenceData) → IsDifferenceBut accepted olds news d → HasNoChanges d → changes_of d ≡ []
empty-no_change accepted olds news d h e =
    let told : seconds d.alarms ≡ [] = h.alarmed.told ∙ (λ i. seconds (filter (is_alarm olds) (e.pairs i)) ++ filter (is_suspect olds) (e.added i)) in
    let none : d.alarms ≡ [] = map-none (λ (a : PackageData × PackageData). a.1) d.alarms told in
    let strange : d.strange ≡ [] = h.estranged.are_strange ∙ (λ i. filter (is_strange_pair accepted olds) (e.pairs i)) in
    let usual : d.usual ≡ [] = h.estranged.are_usual ∙ (λ i. filter (λ p. not (is_strange_pair accepted olds p)) (e.pairs i)) in
    let came : d.came ≡ [] = map-none (λ (a : PackageData × PackageData). a.1) d.came (h.estranged.have_come ∙ (λ i. filter (is_stranger accepted olds) (e.added i))) in
    λ i. (map (λ a. Alarm a.0 a.1) (none i) ++ (map strange_change (strange i) ++ map (λ a. NewSource a.0 a.1) (came i)))
    ++ (changes_in aspect.Source (usual i) ++ (changes_in aspect.Checksum (e.pairs i)
    ++ (changes_in aspect.Replacement (e.pairs i) ++ (changes_in aspect.Version (usual i) ++ (map Removed (e.removed i) ++ map Added (e.added i))))))

pub none_if_permuted : NoneIfPermuted
none_if_permuted accepted olds news d h = (
  λ none. (empty_if_permuted accepted olds news d h).0 (no_change-empty accepted olds news d h none),
  λ perm. empty-no_change accepted olds news d h ((empty_if_permuted accepted olds news d h).1 perm),
)
