-- Why the chosen form is the shortest.
use Rattle.std.proofs.Common.{◌≡◌, ◌≢◌, ◌<◌, ◌≤◌, ◌+◌, ◌⊎◌, inl, inr, ℕ, zero, suc, Bool, true, false, ◌&&◌, ◌==◌, List, [], ◌∷◌, Option, Some, None, IfSome, slice_get, count_by, IsPermutation, option_map, refl, ap, ◌∙◌, sym, subst, arith}
use Rattle.std.specs.List.{find, remove}
use Rattle.std.proofs.lemmas.Bool.{cases_Bool, false≢true, and_parts}
use Rattle.std.proofs.lemmas.Bool.Decides.{Decides-eqb}
use Rattle.std.proofs.lemmas.List.Sorted.{sum_by-IsPermutation, IsPermutation-refl, Contains-permutation, IsPermutation-remove}
use Rattle.std.proofs.lemmas.Option.{same_Some, none-some, slice_get_within, get_or_from_slice_get, slice_get-get_or}
use Rattle.semver.specs.Parse.{Parts}
use Rattle.cargo_lock_parts.specs.Identity.{Identity, IdentityKey, identity_key}
use Rattle.cargo_lock_parts.specs.Source.{MarkedSource, Source, is_path}
use Rattle.cargo_lock_references.specs.WrittenReference.{has_name_and_version, has_name, in_full, mark, exactly_one, shorten, unless_path, without_source, written_source}
use Rattle.cargo_lock_references.specs.Reference.{Reference, one_word}
use Rattle.cargo_lock_references.specs.Records.{unmarked_source}
use Rattle.cargo_lock_references.specs.ResolutionSearch.{fits}
use Rattle.cargo_lock_references.specs.ResolvesTo.{Fits, IsOwnWords, resolves_to_by}
use Rattle.cargo_lock.specs.Shortest.{AreDistinct, HasNoTwin, IsAmbiguous, IsAmong, IsLeast, Names, one_if_some, words_in}
use Rattle.cargo_lock_references.specs.ReadBack.{ResolvesToEqual}
use Rattle.cargo_lock_references.proofs.WrittenReferenceLemmas.{count-hit, count-miss, count-pos, count-some}
use Rattle.cargo_lock_references.proofs.ResolvesToLemmas.{ResolvesTo-from, fits-true, fits-yes, same_parts-refl, same_parts-yes, same_text-refl, same_text-yes}

-- ---- counts

at-least : (n : ℕ) → n ≢ 0 → 1 ≤ n
at-least n h = omega arith

-- one place alone passes: it is the first that does
only_one : {X : Type 0} (q : X → Bool) (xs : List X) (k : ℕ) (d : X) → count_by q xs ≡ 1 → slice_get xs k ≡ Some d → q d ≡ true → find q xs ≡ Some d
only_one q [] k d exactly_one at hit = absurd (none-some d at)
only_one q (x ∷ xs) zero d exactly_one at hit = let s : x ≡ d = same_Some x d at in rw (s, hit)
only_one q (x ∷ xs) (suc k) d exactly_one at hit = elim (cases_Bool (q x)) [
  | inl here ↦ let more = count-pos q xs k d at hit in let total = count-hit q x xs here in absurd (omega arith)
  | inr miss ↦ rw miss (only_one q xs k d (sym (count-miss q x xs miss) ∙ exactly_one) at hit)
]

tail-apart : (x : Identity) (xs : List Identity) → AreDistinct (x ∷ xs) → AreDistinct xs
tail-apart x xs h i j y z a b e = let s = h (suc i) (suc j) y z a b e in omega arith

-- of distinct identities of which not one alone passes, another one passes
another : (q : Identity → Bool) (xs : List Identity) (k : ℕ) (d : Identity) → AreDistinct xs → count_by q xs ≢ 1 → slice_get xs k ≡ Some d → q d ≡ true
    → (y : Identity) × (j : ℕ) × (slice_get xs j ≡ Some y) × (q y ≡ true) × (identity_key y ≢ identity_key d)
another q [] k d apart many at hit = absurd (none-some d at)
another q (x ∷ xs) zero d apart many at hit =
    let s : x ≡ d = same_Some x d at in
    let c : count_by q (x ∷ xs) ≡ 1 + count_by q xs = count-hit q x xs (rw s hit) in
    let some : 1 ≤ count_by q xs = at-least (count_by q xs) (λ e. many (c ∙ ap (λ n. 1 + n) e)) in
    let m = count-some q xs some in
    (m.0, suc m.1, m.2, m.3, λ e. let z = apart (suc m.1) 0 m.0 d m.2 at e in absurd (omega arith))
another q (x ∷ xs) (suc k) d apart many at hit = elim (cases_Bool (q x)) [
  | inl here ↦ (x, 0, refl, here, λ e. let z = apart 0 (suc k) x d refl at e in absurd (omega arith))
  | inr miss ↦
      let m = another q xs k d (tail-apart x xs apart) (λ e. many (count-miss q x xs miss ∙ e)) at hit in
      (m.0, suc m.1, m.2, m.3, m.4)
]

-- ---- in every order

in_order : (list p : List Identity) (k : ℕ) (i : Identity) → IsPermutation list p → slice_get list k ≡ Some i → (j : ℕ) × (slice_get p j ≡ Some i)
in_order list p k i perm at =
    let c = Contains-permutation list p i perm (k, slice_get_within list k i at, get_or_from_slice_get list k i i at) in
    (c.0, slice_get-get_or p c.0 i c.1 ∙ ap Some c.2)

fits-by_name : (n : List ℕ) (i : Identity) → has_name n i ≡ fits (one_word n) i
fits-by_name n i = elim (has_name n i) as (λ b. b ≡ (b && true)) [ true ↦ refl | false ↦ refl ]

find-cong : {X : Type 0} (p q : X → Bool) → ((x : X) → p x ≡ q x) → (xs : List X) → find p xs ≡ find q xs
find-cong p q same [] = refl
find-cong p q same (x ∷ xs) = rw (same x, find-cong p q same xs)

key-name : (i d : Identity) → identity_key i ≡ identity_key d → i.name ≡ d.name
key-name i d e = ap (λ (k : IdentityKey). k.name) e

key-version : (i d : Identity) → identity_key i ≡ identity_key d → i.version ≡ d.version
key-version i d e = ap (λ (k : IdentityKey). k.version) e

own-name : (n : List ℕ) (i : Identity) → i.name ≡ n → has_name n i ≡ true
own-name n i e = rw e (same_text-refl n)

own-both : (n : List ℕ) (v : Parts) (i : Identity) → i.name ≡ n → i.version ≡ v → has_name_and_version n v i ≡ true
own-both n v i e f = rw (e, f, same_text-refl n) (same_parts-refl v)

pub name-names : (list : List Identity) (d : Identity) → IsAmong list d → exactly_one (has_name d.name) list ≡ true → Names (one_word d.name) list d
name-names list d among alone p perm =
    let i = among.1 in
    let n : count_by (has_name d.name) list ≡ 1 = (Decides-eqb _ _).0 alone in
    let there = in_order list p among.0 i perm among.2 in
    let first = only_one (has_name d.name) p there.0 i (sum_by-IsPermutation _ list p perm ∙ n) there.1 (own-name d.name i (key-name i d among.3)) in
    (i, ResolvesTo-from (one_word d.name) p i (rw (← find-cong (has_name d.name) (fits (one_word d.name)) (fits-by_name d.name) p, first)), among.3)

pub version-names : (escaped : Bool) (list : List Identity) (d : Identity) → IsAmong list d → exactly_one (has_name_and_version d.name d.version) list ≡ true → Names (without_source (in_full escaped d)) list d
version-names escaped list d among alone p perm =
    let i = among.1 in
    let n : count_by (has_name_and_version d.name d.version) list ≡ 1 = (Decides-eqb _ _).0 alone in
    let there = in_order list p among.0 i perm among.2 in
    let first = only_one (has_name_and_version d.name d.version) p there.0 i (sum_by-IsPermutation _ list p perm ∙ n) there.1 (own-both d.name d.version i (key-name i d among.3) (key-version i d among.3)) in
    (i, ResolvesTo-from (without_source (in_full escaped d)) p i (rw first), among.3)

-- ---- no form of fewer words

-- an identity can be brought to the front
to_front : (list : List Identity) (y : Identity) (j : ℕ) → slice_get list j ≡ Some y → IsPermutation list (y ∷ remove list j)
to_front list y j at = IsPermutation-remove list j y (slice_get_within list j y at) (sym (get_or_from_slice_get list j y y at))

-- a form without a source says the first identity of a list, where it fits that
not-resolution_of : (g : Reference) (d y : Identity) (ys : List Identity) → g.source ≡ None → Fits g y → identity_key y ≢ identity_key d → ResolvesToEqual g (y ∷ ys) d → ⊥
not-resolution_of g d y ys none fit other resolution_of =
    let s : resolves_to_by None g (y ∷ ys) resolution_of.0 = subst (λ (o : Option MarkedSource). resolves_to_by o g (y ∷ ys) resolution_of.0) none resolution_of.1 in
    elim s [
      | inl first ↦ at_front resolution_of.0 resolution_of.2 first.0 first.1 first.3
      | inr nowhere ↦ nowhere.0 0 y refl fit
    ]
  where
    at_front : (i : Identity) → identity_key i ≡ identity_key d → (k : ℕ) → slice_get (y ∷ ys) k ≡ Some i → ((n : ℕ) (x : Identity) → n < k → slice_get (y ∷ ys) n ≡ Some x → ¬ Fits g x) → ⊥
    at_front i same zero e before = other (ap identity_key (same_Some y i e) ∙ same)
    at_front i same (suc k) e before = before 0 y (omega arith) refl fit

-- what a form without a source says fits it
fit-self : (g : Reference) (list : List Identity) (i : Identity) → resolves_to_by None g list i → Fits g i
fit-self g list i (inl first) = first.2
fit-self g list i (inr nowhere) = (nowhere.1.0, rw nowhere.1.1 refl)

-- a form without a source that says the dependency has its name and, if any, its version
resolution_of-fits : (g : Reference) (list : List Identity) (d : Identity) → g.source ≡ None → ResolvesToEqual g list d → (d.name ≡ g.name) × IfSome g.version (λ v. d.version ≡ v)
resolution_of-fits g list d none resolution_of =
    let fit = fit-self g list resolution_of.0 (subst (λ (o : Option MarkedSource). resolves_to_by o g list resolution_of.0) none resolution_of.1) in
    (sym (key-name resolution_of.0 d resolution_of.2) ∙ fit.0, moved g.version (key-version resolution_of.0 d resolution_of.2) fit.1)
  where
    moved : {v w : Parts} (o : Option Parts) → v ≡ w → IfSome o (λ u. v ≡ u) → IfSome o (λ u. w ≡ u)
    moved None e h = tt
    moved (Some u) e h = sym e ∙ h

-- A form without a source that fits another identity too, if it fits the dependency: with the other
-- one in front it does not say the dependency, and where it fits neither, in no order.
other-order : (g : Reference) (list : List Identity) (d y : Identity) (j : ℕ) → g.source ≡ None → slice_get list j ≡ Some y
    → identity_key y ≢ identity_key d → ((d.name ≡ g.name) × IfSome g.version (λ v. d.version ≡ v) → Fits g y) → IsAmbiguous g list d
other-order g list d y j none at other too = elim (cases_Bool (fits g y)) [
  | inl hit ↦ (y ∷ remove list j, to_front list y j at, λ resolution_of. not-resolution_of g d y (remove list j) none (fits-yes g y hit) other resolution_of)
  | inr miss ↦ (list, IsPermutation-refl list, λ resolution_of. false≢true (sym miss ∙ fits-true g y (too (resolution_of-fits g list d none resolution_of))))
]

few-two : (v : Option Parts) (s : Option MarkedSource) → 1 + one_if_some v + one_if_some s < 2 → (v ≡ None) × (s ≡ None)
few-two None None h = (refl, refl)
few-two None (Some s) h = absurd (omega arith)
few-two (Some v) s h = absurd (omega arith)

few-three : (v : Option Parts) (s : Option MarkedSource) → 1 + one_if_some v + one_if_some s < 3 → (s ≡ None) ⊎ ((t : MarkedSource) × (s ≡ Some t) × (v ≡ None))
few-three None None h = inl refl
few-three None (Some t) h = inr (t, refl, refl)
few-three (Some v) None h = inl refl
few-three (Some v) (Some t) h = absurd (omega arith)

at-least-exactly_one : (v : Option Parts) (s : Option MarkedSource) → 1 + one_if_some v + one_if_some s < 1 → ⊥
at-least-exactly_one v s h = absurd (omega arith)

not-exactly_one : (n : ℕ) → (n == 1) ≡ false → n ≢ 1
not-exactly_one n off e = false≢true (sym off ∙ (Decides-eqb n 1).1 e)

differs : (y i d : Identity) → identity_key y ≢ identity_key i → identity_key i ≡ identity_key d → identity_key y ≢ identity_key d
differs y i d other same e = other (e ∙ sym same)

version-least : (list : List Identity) (d : Identity) → AreDistinct list → IsAmong list d → exactly_one (has_name d.name) list ≡ false → (g : Reference) → words_in g < 2 → IsAmbiguous g list d
version-least list d apart among many g less =
    let (no_version, no_source) = few-two g.version g.source less in
    let m = another (has_name d.name) list among.0 among.1 apart (not-exactly_one _ many) among.2 (own-name d.name among.1 (key-name among.1 d among.3)) in
    other-order g list d m.0 m.1 no_source m.2 (differs m.0 among.1 d m.4 among.3)
    (λ fit. (same_text-yes _ _ m.3 ∙ fit.0, rw no_version tt))

still-fits : (o : Option Parts) (v w : Parts) → v ≡ w → IfSome o (λ u. w ≡ u) → IfSome o (λ u. v ≡ u)
still-fits None v w e h = tt
still-fits (Some u) v w e h = e ∙ h

full-least : (list : List Identity) (d : Identity) → AreDistinct list → IsAmong list d → exactly_one (has_name_and_version d.name d.version) list ≡ false → (g : Reference) → words_in g < 3 → IsAmbiguous g list d
full-least list d apart among many g less =
    elim (few-three g.version g.source less) [
      | inl no_source ↦
          let m = another (has_name_and_version d.name d.version) list among.0 among.1 apart (not-exactly_one _ many) among.2 (own-both d.name d.version among.1 (key-name among.1 d among.3) (key-version among.1 d among.3)) in
          let both = and_parts _ _ m.3 in
          other-order g list d m.0 m.1 no_source m.2 (differs m.0 among.1 d m.4 among.3)
          (λ fit. (same_text-yes _ _ both.0 ∙ fit.0, still-fits g.version m.0.version d.version (same_parts-yes _ _ both.1) fit.1))
      | inr odd ↦ (
        list,
        IsPermutation-refl list,
        λ resolution_of.
            let own_words : IsOwnWords g resolution_of.0 = subst (λ (o : Option MarkedSource). resolves_to_by o g list resolution_of.0) odd.1 resolution_of.1 in
            none-some resolution_of.0.version (sym odd.2 ∙ own_words.1),
      )
    ]

-- ---- the form in full

abbrev pub HasNoPathSource : Identity → Type 0
HasNoPathSource d = IfSome d.source (λ s. is_path s.kind ≡ false)

whole-source : (escaped path : Bool) (s : Source) → path ≡ false → option_map (mark escaped) (unless_path path s) ≡ Some (mark escaped s)
whole-source escaped true s off = absurd (false≢true (sym off))
whole-source escaped false s off = refl

full-written : (escaped : Bool) (d : Identity) (s : Source) → d.source ≡ Some s → HasNoPathSource d → written_source escaped d.source ≡ Some (mark escaped s)
full-written escaped d s e h =
    ap (written_source escaped) e ∙ whole-source escaped (is_path s.kind) s (subst (λ (o : Option Source). IfSome o (λ t. is_path t.kind ≡ false)) e h)

full-names : (escaped : Bool) (list : List Identity) (d : Identity) (s : Source) → d.source ≡ Some s → HasNoPathSource d → Names (in_full escaped d) list d
full-names escaped list d s e h p perm =
    let w = full-written escaped d s e h in
    let own_words : IsOwnWords (in_full escaped d) d = (refl, refl, e ∙ ap unmarked_source (sym w)) in
    (d, subst (λ (o : Option MarkedSource). resolves_to_by o (in_full escaped d) p d) (sym w) own_words, refl)

-- the form that is chosen, and no other of fewer words, names the dependency; one case is excepted
pub record IsWrittenWell (f : Reference) (list : List Identity) (d : Identity) : Type 0 where
  pub names : (d.source ≡ None → HasNoTwin list d) → Names f list d
  pub least : IsLeast f list d

full-case : (escaped : Bool) (o : Option Source) (list : List Identity) (d : Identity) → d.source ≡ o → HasNoPathSource d → AreDistinct list → IsAmong list d
    → exactly_one (has_name d.name) list ≡ false → exactly_one (has_name_and_version d.name d.version) list ≡ false → IsWrittenWell (in_full escaped d) list d
full-case escaped None list d e h apart among named many =
    let i = among.1 in
    let m = another (has_name_and_version d.name d.version) list among.0 i apart (not-exactly_one _ many) among.2 (own-both d.name d.version i (key-name i d among.3) (key-version i d among.3)) in
    let both = and_parts _ _ m.3 in
    let absent : written_source escaped d.source ≡ None = ap (written_source escaped) e in
    record {
      names = λ alone. absurd (differs m.0 i d m.4 among.3 (alone e m.1 m.0 m.2 (same_text-yes _ _ both.0) (same_parts-yes _ _ both.1)));
      least = λ g less. version-least list d apart among named g (rw absent at less);
    }
full-case escaped (Some s) list d e h apart among named many =
    let w = full-written escaped d s e h in
    record {
      names = λ alone. full-names escaped list d s e h;
      least = λ g less. full-least list d apart among many g (rw w at less);
    }

pub chosen-well : (escaped : Bool) (list : List Identity) (d : Identity) → HasNoPathSource d → AreDistinct list → IsAmong list d → IsWrittenWell (shorten list (in_full escaped d)) list d
unfolding shorten
chosen-well escaped list d h apart among = elim (cases_Bool (exactly_one (has_name d.name) list)) [
  | inl a ↦ rw a (record { names = λ alone. name-names list d among a; least = λ g less. absurd (at-least-exactly_one g.version g.source less) })
  | inr a ↦ elim (cases_Bool (exactly_one (has_name_and_version d.name d.version) list)) [
    | inl b ↦ rw (a, b) (record { names = λ alone. version-names escaped list d among b; least = λ g less. version-least list d apart among a g less })
    | inr b ↦ rw (a, b) (full-case escaped d.source list d refl h apart among a b)
  ]
]
