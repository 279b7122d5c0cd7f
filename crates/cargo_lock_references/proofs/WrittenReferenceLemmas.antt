-- A form is shortened by the places that have its name and its version.
use Rattle.std.proofs.Common.{◌≡◌, ◌≤◌, ◌+◌, inl, inr, ℕ, zero, suc, Bool, true, false, cond, List, [], ◌∷◌, slice_get, Option, Some, None, refl, sym, ap, ◌∙◌, arith, count_by}
use Rattle.std.proofs.lemmas.Bool.{cases_Bool, false≢true, and_parts}
use Rattle.std.proofs.lemmas.Bool.Decides.{Decides-eqb}
use Rattle.std.proofs.lemmas.List.Sums.{sum_by-cons}
use Rattle.std.proofs.lemmas.Option.{same_Some, none-some}
use Rattle.semver.specs.Parse.{Parts}
use Rattle.cargo_lock_parts.specs.Identity.{Identity}
use Rattle.cargo_lock_references.specs.WrittenReference.{IsOfNameAndVersion, HasName, IsUnique, ShortenedByPlaces, ShortenedTwice, has_name_and_version, has_name, in_full, is_version_unique, exactly_one, shorten}
use Rattle.cargo_lock_references.specs.Reference.{one_word, two_words}
use Rattle.cargo_lock_references.proofs.ResolvesToLemmas.{same_parts-refl, same_parts-yes, same_text-refl, same_text-yes}

-- ---- counting

pub count-hit : {X : Type 0} (q : X → Bool) (x : X) (xs : List X) → q x ≡ true → count_by q (x ∷ xs) ≡ 1 + count_by q xs
count-hit q x xs hit = sum_by-cons (λ y. cond (q y) 1 0) x xs ∙ rw hit refl

pub count-miss : {X : Type 0} (q : X → Bool) (x : X) (xs : List X) → q x ≡ false → count_by q (x ∷ xs) ≡ count_by q xs
count-miss q x xs miss = sum_by-cons (λ y. cond (q y) 1 0) x xs ∙ rw miss (omega arith)

pub count-pos : {X : Type 0} (q : X → Bool) (xs : List X) (k : ℕ) (d : X) → slice_get xs k ≡ Some d → q d ≡ true → 1 ≤ count_by q xs
count-pos q [] k d at hit = absurd (none-some d at)
count-pos q (x ∷ xs) zero d at hit = let s : x ≡ d = same_Some x d at in omega (arith, count-hit q x xs (rw s hit))
count-pos q (x ∷ xs) (suc k) d at hit = let more = count-pos q xs k d at hit in omega (arith, sum_by-cons (λ y. cond (q y) 1 0) x xs)

pub count-some : {X : Type 0} (q : X → Bool) (xs : List X) → 1 ≤ count_by q xs → (y : X) × (k : ℕ) × (slice_get xs k ≡ Some y) × (q y ≡ true)
count-some q [] h = absurd (omega arith)
count-some q (x ∷ xs) h = elim (cases_Bool (q x)) [
  | inl hit ↦ (x, 0, refl, hit)
  | inr miss ↦ let m = count-some q xs (omega (arith, count-miss q x xs miss)) in (m.0, suc m.1, m.2, m.3)
]

-- where one is counted, two places that pass are one
same-place : {X : Type 0} (q : X → Bool) (xs : List X) (j k : ℕ) (x y : X) → count_by q xs ≡ 1
    → slice_get xs j ≡ Some x → q x ≡ true → slice_get xs k ≡ Some y → q y ≡ true → j ≡ k
same-place q [] j k x y e a p b r = absurd (none-some x a)
same-place q (z ∷ zs) zero zero x y e a p b r = refl
same-place q (z ∷ zs) zero (suc k) x y e a p b r =
    let s : z ≡ x = same_Some z x a in
    let more = count-pos q zs k y b r in
    absurd (omega (arith, count-hit q z zs (rw s p)))
same-place q (z ∷ zs) (suc j) zero x y e a p b r =
    let s : z ≡ y = same_Some z y b in
    let more = count-pos q zs j x a p in
    absurd (omega (arith, count-hit q z zs (rw s r)))
same-place q (z ∷ zs) (suc j) (suc k) x y e a p b r = elim (cases_Bool (q z)) [
  | inl hit ↦ let more = count-pos q zs j x a p in absurd (omega (arith, count-hit q z zs hit))
  | inr miss ↦ ap suc (same-place q zs j k x y (sym (count-miss q z zs miss) ∙ e) a p b r)
]

-- one place that passes, and no other, are counted as one
pub exactly_one-place : {X : Type 0} (q : X → Bool) (xs : List X) (k : ℕ) (x : X) → slice_get xs k ≡ Some x → q x ≡ true
    → ((j : ℕ) (y : X) → slice_get xs j ≡ Some y → q y ≡ true → j ≡ k) → count_by q xs ≡ 1
exactly_one-place q [] k x a p only = absurd (none-some x a)
exactly_one-place q (z ∷ zs) zero x a p only =
    let s : z ≡ x = same_Some z x a in
    let rest : count_by q zs ≡ 0 = none-later q zs (λ j y b r. let e = only (suc j) y b r in omega arith) in
    omega (arith, count-hit q z zs (rw s p))
  where
    none-later : {X : Type 0} (q : X → Bool) (zs : List X) → ((j : ℕ) (y : X) → slice_get zs j ≡ Some y → q y ≡ true → ⊥) → count_by q zs ≡ 0
    none-later q [] never = refl
    none-later q (z ∷ zs) never = elim (cases_Bool (q z)) [
      | inl hit ↦ absurd (never 0 z refl hit)
      | inr miss ↦ count-miss q z zs miss ∙ none-later q zs (λ j y b r. never (suc j) y b r)
    ]
exactly_one-place q (z ∷ zs) (suc k) x a p only = elim (cases_Bool (q z)) [
  | inl hit ↦ absurd (let e = only 0 z refl hit in omega arith)
  | inr miss ↦ count-miss q z zs miss ∙ exactly_one-place q zs k x a p (λ j y b r. let e = only (suc j) y b r in omega arith)
]

-- ---- the test and the places

exactly_one-yes : (q : Identity → Bool) (list : List Identity) → exactly_one q list ≡ true → count_by q list ≡ 1
exactly_one-yes q list h = (Decides-eqb _ _).0 h

exactly_one-true : (q : Identity → Bool) (list : List Identity) → count_by q list ≡ 1 → exactly_one q list ≡ true
exactly_one-true q list h = (Decides-eqb _ _).1 h

unique-yes : (P : Identity → Type 0) (q : Identity → Bool) → ((i : Identity) → q i ≡ true → P i) → ((i : Identity) → P i → q i ≡ true)
    → (list : List Identity) → exactly_one q list ≡ true → IsUnique P list
unique-yes P q sound full list h =
    let e = exactly_one-yes q list h in
    let m = count-some q list (omega arith) in
    (m.1, m.0, m.2, sound m.0 m.3, λ j y b r. same-place q list j m.1 y m.0 e b (full y r) m.2 m.3)

unique-true : (P : Identity → Type 0) (q : Identity → Bool) → ((i : Identity) → q i ≡ true → P i) → ((i : Identity) → P i → q i ≡ true)
    → (list : List Identity) → IsUnique P list → exactly_one q list ≡ true
unique-true P q sound full list u =
    exactly_one-true q list (exactly_one-place q list u.0 u.1 u.2 (full u.1 u.3) (λ j y b r. u.4 j y b (sound y r)))

unique-no : (P : Identity → Type 0) (q : Identity → Bool) → ((i : Identity) → q i ≡ true → P i) → ((i : Identity) → P i → q i ≡ true)
    → (list : List Identity) → exactly_one q list ≡ false → ¬ IsUnique P list
unique-no P q sound full list miss u = false≢true (sym miss ∙ unique-true P q sound full list u)

name-sound : (name : List ℕ) (i : Identity) → has_name name i ≡ true → HasName name i
name-sound name i h = same_text-yes i.name name h

name-full : (name : List ℕ) (i : Identity) → HasName name i → has_name name i ≡ true
name-full name i h = rw h (same_text-refl name)

both-sound : (name : List ℕ) (v : Parts) (i : Identity) → has_name_and_version name v i ≡ true → IsOfNameAndVersion name v i
both-sound name v i h = let (a, b) = and_parts _ _ h in (same_text-yes i.name name a, same_parts-yes i.version v b)

both-full : (name : List ℕ) (v : Parts) (i : Identity) → IsOfNameAndVersion name v i → has_name_and_version name v i ≡ true
both-full name v i h = rw (h.0, h.1, same_text-refl name) (same_parts-refl v)

-- ---- versions

version-yes : (list : List Identity) (name : List ℕ) (o : Option Parts) → is_version_unique list name o ≡ true
    → (v : Parts) × (o ≡ Some v) × IsUnique (IsOfNameAndVersion name v) list
version-yes list name None h = absurd (false≢true h)
version-yes list name (Some v) h =
    (v, refl, unique-yes (IsOfNameAndVersion name v) (has_name_and_version name v) (both-sound name v) (both-full name v) list h)

version-no : (list : List Identity) (name : List ℕ) (o : Option Parts) → is_version_unique list name o ≡ false
    → (v : Parts) → o ≡ Some v → ¬ IsUnique (IsOfNameAndVersion name v) list
version-no list name None h v e u = none-some v e
version-no list name (Some w) h v e u =
    let s : w ≡ v = same_Some w v e in
    unique-no (IsOfNameAndVersion name v) (has_name_and_version name v) (both-sound name v) (both-full name v) list (rw s at h) u

-- ---- the laws

pub shorten-by_places : ShortenedByPlaces
unfolding shorten
shorten-by_places list f = elim (cases_Bool (exactly_one (has_name f.name) list)) [
  | inl hit ↦ inl (unique-yes (HasName f.name) (has_name f.name) (name-sound f.name) (name-full f.name) list hit, rw hit)
  | inr miss ↦
      let no_name = unique-no (HasName f.name) (has_name f.name) (name-sound f.name) (name-full f.name) list miss in
      elim (cases_Bool (is_version_unique list f.name f.version)) [
        | inl unique ↦ inr (inl (no_name, version-yes list f.name f.version unique, rw (miss, unique)))
        | inr several ↦ inr (inr (no_name, λ u. version-no list f.name f.version several u.0 u.1 u.2, rw (miss, several)))
      ]
]

pub shorten-twice : ShortenedTwice
unfolding shorten
shorten-twice list f = elim (cases_Bool (exactly_one (has_name f.name) list)) [
  | inl hit ↦ rw (hit, hit)
  | inr miss ↦ elim (cases_Bool (is_version_unique list f.name f.version)) [
    | inl unique ↦ rw (miss, unique, miss, unique)
    | inr several ↦ rw (miss, several, miss, several)
  ]
]

-- ---- the form that is written, told by two tests

pub shorten-to_one : (list : List Identity) (escaped : Bool) (d : Identity) (name : List ℕ) (a : Bool)
    → name ≡ d.name → a ≡ exactly_one (has_name name) list → a ≡ true
    → shorten list (in_full escaped d) ≡ one_word name
unfolding shorten
shorten-to_one list escaped d name a named by_name is_one =
    let x : exactly_one (has_name d.name) list ≡ true = ap (λ n. exactly_one (has_name n) list) (sym named) ∙ sym by_name ∙ is_one in
    rw x (ap one_word (sym named))

pub shorten-to_two : (list : List Identity) (escaped : Bool) (d : Identity) (name : List ℕ) (version : Parts) (a b : Bool)
    → name ≡ d.name → version ≡ d.version → a ≡ exactly_one (has_name name) list → a ≡ false → b ≡ exactly_one (has_name_and_version name version) list → b ≡ true
    → shorten list (in_full escaped d) ≡ two_words name version
unfolding shorten
shorten-to_two list escaped d name version a b named versioned by_name unnamed by_both is_one =
    let x : exactly_one (has_name d.name) list ≡ false = ap (λ n. exactly_one (has_name n) list) (sym named) ∙ sym by_name ∙ unnamed in
    let y : exactly_one (has_name_and_version d.name d.version) list ≡ true = sym (λ i. exactly_one (has_name_and_version (named i) (versioned i)) list) ∙ sym by_both ∙ is_one in
    rw (x, y) (λ i. two_words (sym named i) (sym versioned i))

pub shorten-to_full : (list : List Identity) (escaped : Bool) (d : Identity) (name : List ℕ) (version : Parts) (a b : Bool)
    → name ≡ d.name → version ≡ d.version → a ≡ exactly_one (has_name name) list → a ≡ false → b ≡ exactly_one (has_name_and_version name version) list → b ≡ false
    → shorten list (in_full escaped d) ≡ in_full escaped d
unfolding shorten
shorten-to_full list escaped d name version a b named versioned by_name unnamed by_both miss =
    let x : exactly_one (has_name d.name) list ≡ false = ap (λ n. exactly_one (has_name n) list) (sym named) ∙ sym by_name ∙ unnamed in
    let y : exactly_one (has_name_and_version d.name d.version) list ≡ false = sym (λ i. exactly_one (has_name_and_version (named i) (versioned i)) list) ∙ sym by_both ∙ miss in
    rw (x, y) refl
