-- What a form says, by places and by a search, is the same.
use Rattle.std.proofs.Common.{◌≡◌, ◌<◌, inl, inr, ℕ, zero, suc, Bool, true, false, List, [], ◌∷◌, map, slice_get, Option, Some, None, IfSome, is_some, option_map, Result, Ok, Err, refl, subst, sym, ap, ◌∙◌, arith}
use Rattle.std.specs.List.{find}
use Rattle.std.specs.Bool.{Decides}
use Rattle.std.proofs.lemmas.Bool.{cases_Bool, false≢true, and_parts}
use Rattle.std.proofs.lemmas.Bool.Decides.{Decides-eqb}
use Rattle.std.proofs.lemmas.Option.{same_Some, none-some}
use Rattle.std.proofs.lemmas.Slice.Eq.{slice_eq-Decides}
use Rattle.semver.specs.Parse.{Parts}
use Rattle.cargo_lock_parts.specs.declared.error.Error.{Error}
use Rattle.cargo_lock_parts.specs.Error.{Reads}
use Rattle.cargo_lock_parts.specs.Identity.{Identity}
use Rattle.cargo_lock_parts.specs.Source.{Source, MarkedSource}
use Rattle.cargo_lock_references.specs.Finds.{Finds}
use Rattle.cargo_lock_references.specs.Reference.{Reference}
use Rattle.cargo_lock_references.specs.Records.{unmarked_source}
use Rattle.cargo_lock_references.specs.ResolutionSearch.{same_text, same_parts, has_version, fits, own_words, or_own_words, resolution_by, resolution_of, with_version}
use Rattle.cargo_lock_references.specs.ResolvesTo.{Fits, IsOwnWords, resolves_to_by, ResolvesTo}
use Rattle.cargo_lock_references.proofs.Walk.{Refuses-by}

-- ---- tests

pub same_text-Decides : (a b : List ℕ) → Decides (same_text a b) (a ≡ b)
same_text-Decides a b = slice_eq-Decides Decides-eqb a b _ refl

pub same_text-yes : (a b : List ℕ) → same_text a b ≡ true → a ≡ b
same_text-yes a b = (same_text-Decides a b).0

pub same_text-refl : (a : List ℕ) → same_text a a ≡ true
same_text-refl a = (same_text-Decides a a).1 refl

tuple-same : (x0 y0 x1 y1 x2 y2 : ℕ) (x3 y3 x4 y4 : List ℕ) → x0 ≡ y0 → x1 ≡ y1 → x2 ≡ y2 → x3 ≡ y3 → x4 ≡ y4 → ◌≡◌ {A = Parts} (x0, x1, x2, x3, x4) (y0, y1, y2, y3, y4)
tuple-same x0 y0 x1 y1 x2 y2 x3 y3 x4 y4 e0 e1 e2 e3 e4 = rw (e0, e1, e2, e3, e4)

pub same_parts-yes : (a b : Parts) → same_parts a b ≡ true → a ≡ b
same_parts-yes a b h =
    let (n, t4) = and_parts _ _ h in
    let (m, t3) = and_parts _ _ n in
    let (l, t2) = and_parts _ _ m in
    let (t0, t1) = and_parts _ _ l in
    let e0 : a.0 ≡ b.0 = (Decides-eqb _ _).0 t0 in
    let e1 : a.1 ≡ b.1 = (Decides-eqb _ _).0 t1 in
    let e2 : a.2 ≡ b.2 = (Decides-eqb _ _).0 t2 in
    let e3 : a.3 ≡ b.3 = same_text-yes _ _ t3 in
    let e4 : a.4 ≡ b.4 = same_text-yes _ _ t4 in
    tuple-same _ _ _ _ _ _ _ _ _ _ e0 e1 e2 e3 e4

pub same_parts-refl : (a : Parts) → same_parts a a ≡ true
same_parts-refl a = rw ((Decides-eqb a.0 a.0).1 refl, (Decides-eqb a.1 a.1).1 refl, (Decides-eqb a.2 a.2).1 refl, same_text-refl a.3, same_text-refl a.4)

pub has_version-yes : (o : Option Parts) (v : Parts) → has_version o v ≡ true → IfSome o (λ w. v ≡ w)
has_version-yes None v h = tt
has_version-yes (Some w) v h = same_parts-yes v w h

has_version-true : (o : Option Parts) (v : Parts) → IfSome o (λ w. v ≡ w) → has_version o v ≡ true
has_version-true None v h = refl
has_version-true (Some w) v h = rw h (same_parts-refl w)

pub fits-yes : (f : Reference) (i : Identity) → fits f i ≡ true → Fits f i
fits-yes f i h = let (a, b) = and_parts _ _ h in (same_text-yes _ _ a, has_version-yes _ _ b)

pub fits-true : (f : Reference) (i : Identity) → Fits f i → fits f i ≡ true
fits-true f i h = rw (h.0, same_text-refl f.name, has_version-true f.version i.version h.1)

pub fits-false : (f : Reference) (i : Identity) → ¬ Fits f i → fits f i ≡ false
fits-false f i h = elim (cases_Bool (fits f i)) [
  | inl hit ↦ absurd (h (fits-yes f i hit))
  | inr miss ↦ miss
]

-- ---- the first that passes

pub find-at : {X : Type 0} (p : X → Bool) (xs : List X) (k : ℕ) (i : X) → slice_get xs k ≡ Some i → p i ≡ true → ((j : ℕ) (y : X) → j < k → slice_get xs j ≡ Some y → p y ≡ false) → find p xs ≡ Some i
find-at p [] k i at hit before = absurd (none-some i at)
find-at p (x ∷ xs) zero i at hit before = let e : x ≡ i = same_Some x i at in rw (e, hit)
find-at p (x ∷ xs) (suc k) i at hit before = rw (before 0 x (omega arith) refl) (find-at p xs k i at hit (λ j y low there. before (suc j) y (omega arith) there))

pub find-nowhere : {X : Type 0} (p : X → Bool) (xs : List X) → ((j : ℕ) (y : X) → slice_get xs j ≡ Some y → p y ≡ false) → find p xs ≡ None
find-nowhere p [] never = refl
find-nowhere p (x ∷ xs) never = rw (never 0 x refl) (find-nowhere p xs (λ j y there. never (suc j) y there))

abbrev Found : {X : Type 0} → (X → Bool) → List X → X → Type 0
Found {X} p xs i = (k : ℕ) × (slice_get xs k ≡ Some i) × (p i ≡ true) × ((j : ℕ) (y : X) → j < k → slice_get xs j ≡ Some y → p y ≡ false)

earlier : {X : Type 0} (p : X → Bool) (x : X) (xs : List X) (k : ℕ) → p x ≡ false → ((j : ℕ) (y : X) → j < k → slice_get xs j ≡ Some y → p y ≡ false)
    → (j : ℕ) (y : X) → j < suc k → slice_get (x ∷ xs) j ≡ Some y → p y ≡ false
earlier p x xs k miss before zero y low there = let e : x ≡ y = same_Some x y there in rw (← e) miss
earlier p x xs k miss before (suc j) y low there = before j y (omega arith) there

pub find-found : {X : Type 0} (p : X → Bool) (xs : List X) (i : X) → find p xs ≡ Some i → Found p xs i
find-found p [] i e = absurd (none-some i e)
find-found p (x ∷ xs) i e = elim (cases_Bool (p x)) [
  | inl hit ↦ let s : x ≡ i = same_Some x i (rw hit at e) in (0, ap Some s, rw (← s) hit, λ j y low there. absurd (omega arith))
  | inr miss ↦ let f = find-found p xs i (rw miss at e) in (suc f.0, f.1, f.2, earlier p x xs f.0 miss f.3)
]

no_head : {X : Type 0} (p : X → Bool) (x : X) (xs : List X) → find p (x ∷ xs) ≡ None → (p x ≡ false) × (find p xs ≡ None)
no_head p x xs e = elim (cases_Bool (p x)) [
  | inl hit ↦ absurd (none-some x (sym (rw hit at e)))
  | inr miss ↦ (miss, rw miss at e)
]

pub find-unfound : {X : Type 0} (p : X → Bool) (xs : List X) → find p xs ≡ None → (j : ℕ) (y : X) → slice_get xs j ≡ Some y → p y ≡ false
find-unfound p [] e j y there = absurd (none-some y there)
find-unfound p (x ∷ xs) e zero y there = let s : x ≡ y = same_Some x y there in rw (← s) ((no_head p x xs e).0)
find-unfound p (x ∷ xs) e (suc j) y there = find-unfound p xs ((no_head p x xs e).1) j y there

-- ---- what a form says

pub own_words-of : (f : Reference) (i : Identity) → IsOwnWords f i → own_words f ≡ Some i
own_words-of f i h = rw (h.1, ← h.0, ← h.2)

own_words-parts : (v : Option Parts) (name : List ℕ) (source : Option Source) (i : Identity) → option_map (with_version name source) v ≡ Some i → (i.name ≡ name) × (v ≡ Some i.version) × (i.source ≡ source)
own_words-parts None name source i e = absurd (none-some i e)
own_words-parts (Some v) name source i e =
    let s : with_version name source v ≡ i = same_Some _ _ e in
    (sym (ap (λ (x : Identity). x.name) s), ap (λ (x : Identity). Some x.version) s, sym (ap (λ (x : Identity). x.source) s))

pub own_words-is : (f : Reference) (i : Identity) → own_words f ≡ Some i → IsOwnWords f i
own_words-is f i e = own_words-parts f.version f.name (unmarked_source f.source) i e

resolution_by-from : (s : Option MarkedSource) (f : Reference) (list : List Identity) (i : Identity) → resolves_to_by s f list i → resolution_by s f list ≡ Some i
resolution_by-from (Some s) f list i h = own_words-of f i h
resolution_by-from None f list i (inl h) = rw (find-at (fits f) list h.0 i h.1 (fits-true f i h.2) (λ j y low there. fits-false f y (h.3 j y low there)))
resolution_by-from None f list i (inr h) = rw (find-nowhere (fits f) list (λ j y there. fits-false f y (h.0 j y there))) (own_words-of f i h.1)

unfit : (f : Reference) (i : Identity) → fits f i ≡ false → ¬ Fits f i
unfit f i e h = false≢true (sym e ∙ fits-true f i h)

by_find : (o : Option Identity) (f : Reference) (list : List Identity) (i : Identity) → find (fits f) list ≡ o → or_own_words f o ≡ Some i → resolves_to_by None f list i
by_find None f list i none e = inr (λ j y there. unfit f y (find-unfound (fits f) list none j y there), own_words-is f i e)
by_find (Some x) f list i some e =
    let s : x ≡ i = same_Some x i e in
    let found = find-found (fits f) list i (some ∙ ap Some s) in
    inl (found.0, found.1, fits-yes f i found.2, λ j y low there. unfit f y (found.3 j y low there))

resolves_to_by-from : (s : Option MarkedSource) (f : Reference) (list : List Identity) (i : Identity) → resolution_by s f list ≡ Some i → resolves_to_by s f list i
resolves_to_by-from (Some s) f list i e = own_words-is f i e
resolves_to_by-from None f list i e = by_find _ f list i refl e

pub resolution_of-from : (f : Reference) (list : List Identity) (i : Identity) → ResolvesTo f list i → resolution_of f list ≡ Some i
resolution_of-from f list i h = resolution_by-from f.source f list i h

pub ResolvesTo-from : (f : Reference) (list : List Identity) (i : Identity) → resolution_of f list ≡ Some i → ResolvesTo f list i
ResolvesTo-from f list i e = resolves_to_by-from f.source f list i e

-- ---- the search of a list of entries

-- the first of the mapped elements
pub find-map : {X Y : Type 0} (p : Y → Bool) (f : X → Y) (xs : List X) → find p (map f xs) ≡ option_map f (find (λ x. p (f x)) xs)
find-map p f [] = refl
find-map p f (x ∷ xs) = elim (cases_Bool (p (f x))) [
  | inl hit ↦ rw hit
  | inr miss ↦ rw miss (find-map p f xs)
]

pub resolution_of-found : {X : Type 0} (identity : X → Identity) (f : Reference) (xs : List X) (x : X) → f.source ≡ None → find (λ y. fits f (identity y)) xs ≡ Some x → resolution_of f (map identity xs) ≡ Some (identity x)
resolution_of-found identity f xs x none found = rw (none, find-map (fits f) identity xs, found)

pub resolution_of-unfound : {X : Type 0} (identity : X → Identity) (f : Reference) (xs : List X) → f.source ≡ None → find (λ y. fits f (identity y)) xs ≡ None → resolution_of f (map identity xs) ≡ own_words f
resolution_of-unfound identity f xs none unfound = rw (none, find-map (fits f) identity xs, unfound)

-- what is found has the name
pub found-name : {X : Type 0} (identity : X → Identity) (f : Reference) (xs : List X) (x : X) → find (λ y. fits f (identity y)) xs ≡ Some x → f.name ≡ (identity x).name
found-name identity f xs x found =
    let w = find-found (λ y. fits f (identity y)) xs x found in
    sym ((fits-yes f (identity x) w.2).0)

-- what is found for an equal reference
pub into-found : {X : Type 0} (identity : X → Identity) (r f : Reference) (xs : List X) (x : X) → r ≡ f → f.source ≡ None → find (λ y. fits r (identity y)) xs ≡ Some x → (resolution_of f (map identity xs) ≡ Some (identity x)) × (f.name ≡ (identity x).name)
into-found identity r f xs x e none found =
    let h = subst (λ q. find (λ y. fits q (identity y)) xs ≡ Some x) e found in
    (resolution_of-found identity f xs x none h, found-name identity f xs x h)

pub no_source : (s : Option MarkedSource) → is_some s ≡ false → s ≡ None
no_source None h = refl
no_source (Some s) h = cc

-- what a search finds is what the form says
pub Finds-resolution_of : (f : Reference) (list : List Identity) (r : Result Identity Error)
    → Reads (λ d. d) r (resolution_of f list) → Finds (ResolvesTo f list) r
Finds-resolution_of f list (Ok d) h = ResolvesTo-from f list d h
Finds-resolution_of f list (Err e) h = Refuses-by e _ _ h (λ none i resolves. none-some i (sym none ∙ resolution_of-from f list i resolves))
