-- The packages of a list at numbered places.
use Rattle.std.proofs.Common.{◌≡◌, ◌≢◌, ◌<◌, ◌+◌, ◌⊎◌, ◌++◌, inl, inr, ℕ, Bool, nat_lt, if◌then◌else◌, List, [], ◌∷◌, length, get_or, map, replicate, set, slice_get, Option, Some, None, option_map, refl, sym, ap, subst, ◌∙◌, arith}
use Rattle.std.specs.List.{AllPairs, Contains}
use Rattle.std.specs.List.Sorted.{IsStrictlyIncreasing}
use Rattle.std.proofs.lemmas.Bool.{cases_Bool, cases_eq, ltb-true, ltb-false}
use Rattle.std.proofs.lemmas.List.{get_or-map, get_or-replicate, get_or-set_other, get_or-set_same, length-map, length-replicate}
use Rattle.std.proofs.Math.ListN.{length-set}
use Rattle.std.proofs.lemmas.List.Elements.{Contains-append_cases, Contains-append_left, Contains-append_right, Contains-get_or}
use Rattle.semver.specs.Parse.{Parts}
use Rattle.std.proofs.lemmas.Option.{get_or_from_slice_get, same_Some, slice_get-get_or, slice_get_past, slice_get_within}
use Rattle.cargo_lock_parts.specs.Identity.{Identity, IdentityKey, PackageData, identity_key, identity_of}
use Rattle.cargo_lock_parts.specs.Source.{Source, is_git}
use Rattle.cargo_lock_parts.specs.SourceKey.{Key, key_of}
use Rattle.cargo_lock_edges.specs.Nearest.{key_without_commit}
use Rattle.cargo_lock_merge_core.specs.Commits.{Lockfiles}
use Rattle.cargo_lock_merge_core.specs.Linked.{AreStatedOnce}
use Rattle.cargo_lock_merge_core.specs.Lists.{AreNumbered, AreSlots, BeginsAt, HasReplacement, IsLastAt, IsNumber, IsNumberAt, IsNumberedAt, IsReplaced, no_place, place_at, replaced_place}
use Rattle.cargo_lock_merge_core.specs.Numbered.{place_number, place_numbers}
use Rattle.cargo_lock_merge_core.specs.Placed.{HasOneAtEach, PlacedData}
use Rattle.cargo_lock_merge_core.specs.Places.{IsPlaced, IsReplacementIn, Place, has_several, least_of_line, merge_place, version_in}
use Rattle.cargo_lock_merge_core.specs.Refusals.{AreAtOnePlace, IsUnreplaced}
use Rattle.cargo_lock_merge_core.specs.declared.numbered.Replaced.{Replaced}
use Rattle.cargo_lock_merge_core.specs.declared.numbered.Replaced.TheVariants.{At, Lost, Not}
use Rattle.cargo_lock_merge_core.specs.Renaming.{Has, rename, rename_all}
use Rattle.cargo_lock_merge_core.proofs.Ascending.{far-below, up-push}
use Rattle.cargo_lock_merge_core.proofs.Linking.{refers-within}
use Rattle.cargo_lock_graph.proofs.EdgesOnce.{last-one}
use Rattle.lists.proofs.Members.{contains-cases, first-in, got-in, in-got, in-map, map-in, none-in}
use Rattle.cargo_lock_merge_core.proofs.Planning.{map-push}

at-most : (n i : ℕ) → n < i + 1 → (n < i) ⊎ (n ≡ i)
at-most n i low = elim (cases_Bool (nat_lt n i)) [
  | inl less ↦ inl (ltb-true n i less)
  | inr more ↦ let h = ltb-false n i more in inr (omega (arith, h, low))
]

-- ---- numbers of places

module _ (places : List Place) where
  pub place-of-number : (k n : ℕ) (h : IsNumberAt places k n) → place_at places n ≡ h.place
  place-of-number k n h = rw h.last.1 refl

  -- one place has one number
  pub number-one : (k m n : ℕ) → IsNumberAt places k m → IsNumberAt places k n → m ≡ n
  number-one k m n a b =
      let same : a.place ≡ b.place = same_Some a.place b.place (sym a.here ∙ b.here) in
      last-one (λ j. slice_get places j ≡ Some b.place) (length places) m n (subst (λ (p : Place). IsLastAt places p m) same a.last) b.last

  -- places with one number are one
  pub place-one : (j k n : ℕ) (a : IsNumberAt places j n) (b : IsNumberAt places k n) → a.place ≡ b.place
  place-one j k n a b = sym (place-of-number j n a) ∙ place-of-number k n b

  -- one place at two indices has one number
  pub number-moved : (j k n : ℕ) (p : Place) → slice_get places j ≡ Some p → slice_get places k ≡ Some p → IsNumberAt places j n → IsNumberAt places k n
  number-moved j k n p at-j at-k h = record { place = h.place; here = at-k ∙ sym at-j ∙ h.here; last = h.last }

  pub number-is : (k n : ℕ) → IsNumberAt places k n → IsNumber places n
  number-is k n h = subst (λ (p : Place). IsLastAt places p n) (sym (place-of-number k n h)) h.last

  -- numbers of one place are one
  pub numbers-one : (m n : ℕ) → IsNumber places m → IsNumber places n → place_at places m ≡ place_at places n → m ≡ n
  numbers-one m n a b same = last-one (λ j. slice_get places j ≡ Some (place_at places n)) (length places) m n (subst (λ (p : Place). IsLastAt places p m) same a) b

  -- ---- the slots of a list

  module _ (offset : ℕ) (packages : List PackageData) (slots : List (Option ℕ)) (are : AreSlots places offset (length packages) slots) where
    module _ (all : Lockfiles) (begins : BeginsAt all places packages offset) where
      -- the place of a package
      pub place-here : (k n : ℕ) (p : PackageData) (h : IsNumberAt places (offset + k) n) → slice_get packages k ≡ Some p → place_at places n ≡ merge_place all p
      place-here k n p h at = place-of-number (offset + k) n h ∙ same_Some h.place (merge_place all p) (sym h.here ∙ begins.here k p at)

      -- packages at one place are one
      pub one-there : (j k : ℕ) (p q : PackageData) → slice_get packages j ≡ Some p → slice_get packages k ≡ Some q → merge_place all p ≡ merge_place all q → j ≡ k
      one-there j k p q at-j at-k same =
          let low-j = slice_get_within packages j p at-j in
          let low-k = slice_get_within packages k q at-k in
          let (n, number) = are.all_there j low-j in
          let moved = number-moved (offset + j) (offset + k) n (merge_place all p) (begins.here j p at-j) (begins.here k q at-k ∙ ap Some (sym same)) number in
          let at-n = (are.each n j).1 (low-j, number) in
          let at-n' = (are.each n k).1 (low-k, moved) in
          same_Some j k (same_Some (Some j) (Some k) (sym at-n ∙ at-n'))

-- ---- places by keys of identities

drop-commit : Key → Key
drop-commit k = record k { precise = None }

version-by : Bool → Parts → Option Key → Option Parts
version-by several version None = if several then Some version else None
version-by several version (Some k) = if is_git k.kind then None else Some (least_of_line version)

version-same : (several : Bool) (version : Parts) (s : Option Source) → version_in several version s ≡ version-by several version (option_map key_of s)
unfolding version-by
version-same several version None = refl
version-same several version (Some s) = refl

source-same : (s : Option Source) → option_map key_without_commit s ≡ option_map drop-commit (option_map key_of s)
unfolding drop-commit
source-same None = refl
source-same (Some s) = refl

place-by : Lockfiles → IdentityKey → Place
place-by all k = record {
  name = k.name;
  version = version-by (has_several all k.name) k.version k.source;
  source = option_map drop-commit k.source;
}

place-is : (all : Lockfiles) (p : PackageData) → merge_place all p ≡ place-by all (identity_key (identity_of p))
unfolding place-by
place-is all p = λ i. record {
  name = p.name;
  version = version-same (has_several all p.name) p.version p.source i;
  source = source-same p.source i;
}

-- packages of one identity are at one place
pub place-of-key : (all : Lockfiles) (p q : PackageData) → identity_key (identity_of p) ≡ identity_key (identity_of q) → merge_place all p ≡ merge_place all q
place-of-key all p q same = place-is all p ∙ ap (place-by all) same ∙ sym (place-is all q)

-- packages of one name, version and source but for the commit are at one place
version-bare : (several : Bool) (version : Parts) (s : Option Source) → version_in several version s ≡ version-by several version (option_map key_without_commit s)
unfolding version-by
version-bare several version None = refl
version-bare several version (Some s) = refl

pub place-stated : (all : Lockfiles) (p q : PackageData) → p.name ≡ q.name → p.version ≡ q.version → option_map key_without_commit p.source ≡ option_map key_without_commit q.source → merge_place all p ≡ merge_place all q
place-stated all p q name version source = λ i. record {
  name = name i;
  version = (version-bare (has_several all p.name) p.version p.source
      ∙ (λ j. version-by (has_several all (name j)) (version j) (source j))
      ∙ sym (version-bare (has_several all q.name) q.version q.source)) i;
  source = source i;
}

-- ---- the packages of the first numbers

-- the packages at the numbers below i
pub record AreFirst (places : List Place) (offset : ℕ) (packages : List PackageData) (slots : List (Option ℕ)) (i : ℕ) (xs : List (PlacedData ℕ)) : Type 0 where
  pub ascending : IsStrictlyIncreasing (place_numbers xs)
  pub below : (x : PlacedData ℕ) → Contains xs x → x.place < i
  pub each : (x : PlacedData ℕ) → Contains xs x → (k : ℕ) × (slice_get slots x.place ≡ Some (Some k)) × IsNumberedAt places offset packages k x
  pub all_there : (n k : ℕ) → n < i → slice_get slots n ≡ Some (Some k) → (x : PlacedData ℕ) × Contains xs x × (x.place ≡ n)

module _ (places : List Place) (offset : ℕ) (packages : List PackageData) (slots : List (Option ℕ)) where
  pub first-start : AreFirst places offset packages slots 0 []
  first-start = record {
    ascending = λ i low. absurd (omega (arith, low));
    below = λ x h. absurd (none-in x h);
    each = λ x h. absurd (none-in x h);
    all_there = λ n k low at. absurd (omega (arith, low));
  }

  pub first-pass : (i : ℕ) (xs : List (PlacedData ℕ)) → AreFirst places offset packages slots i xs → slice_get slots i ≡ Some None → AreFirst places offset packages slots (i + 1) xs
  first-pass i xs h none = record {
    ascending = h.ascending;
    below = λ x among. let low = h.below x among in omega (arith, low);
    each = h.each;
    all_there = λ n k low at. elim (at-most n i low) [
      | inl before ↦ h.all_there n k before at
      | inr here ↦ absurd (let e = same_Some None (Some k) (sym none ∙ ap (slice_get slots) (sym here) ∙ at) in cc)
    ];
  }

  pub first-push : (i k : ℕ) (xs : List (PlacedData ℕ)) (x : PlacedData ℕ) → AreSlots places offset (length packages) slots → AreFirst places offset packages slots i xs
      → slice_get slots i ≡ Some (Some k) → IsNumberedAt places offset packages k x → AreFirst places offset packages slots (i + 1) (xs ++ x ∷ [])
  first-push i k xs x are h at one =
      let place : x.place ≡ i = number-one places (offset + k) x.place i one.place ((are.each i k).0 at).1 in
      record {
        ascending = subst IsStrictlyIncreasing (sym (map-push place_number xs x)) (up-push (place_numbers xs) x.place h.ascending
            (λ j low. let long = length-map xs place_number in
            let there = Contains-get_or xs j x (omega (arith, low, long)) in
            let less = h.below (get_or xs j x) there in
            let is = get_or-map place_number xs j x 0 (omega (arith, low, long)) in omega (arith, less, is, place)));
        below = λ y among. elim (Contains-append_cases xs (x ∷ []) y among) [
          | inl before ↦ let low = h.below y before in omega (arith, low)
          | inr last ↦ let is = ap (λ (z : PlacedData ℕ). z.place) (only-in x y last) in omega (arith, is, place)
        ];
        each = λ y among. elim (Contains-append_cases xs (x ∷ []) y among) [
          | inl before ↦ h.each y before
          | inr last ↦ subst (λ (z : PlacedData ℕ). (k : ℕ) × (slice_get slots z.place ≡ Some (Some k)) × IsNumberedAt places offset packages k z) (only-in x y last)
              (k, ap (slice_get slots) place ∙ at, one)
        ];
        all_there = λ n m low at-n. elim (at-most n i low) [
          | inl before ↦ let r = h.all_there n m before at-n in (r.0, Contains-append_left xs (x ∷ []) r.0 r.1, r.2)
          | inr here ↦ (x, Contains-append_right xs (x ∷ []) x (first-in x []), place ∙ sym here)
        ];
      }
    where
      only-in : (x y : PlacedData ℕ) → Contains (x ∷ []) y → x ≡ y
      only-in x y m = elim (contains-cases x [] y m) [
        | inl is ↦ is
        | inr there ↦ absurd (none-in y there)
      ]

  -- ---- all packages

  module _ (xs : List (PlacedData ℕ)) (are : AreSlots places offset (length packages) slots) (h : AreFirst places offset packages slots (length places) xs) (all : Lockfiles) (begins : BeginsAt all places packages offset) where
    -- packages of one name, version and source but for the commit are at one place
    stated-once : AreStatedOnce packages
    stated-once i j k a b = one-there places offset packages slots are all begins j k a.0 b.0 a.1 b.1
        (place-stated all a.0 b.0 (sym a.2.named.name ∙ b.2.named.name) (sym a.2.named.version ∙ b.2.named.version) (a.2.source ∙ sym b.2.source))

    -- what a package refers to has a number
    place-number : (x : PlacedData ℕ) → Contains xs x → IsNumber places x.place
    place-number x among = let (k, at, one) = h.each x among in number-is places (offset + k) x.place one.place

    depends-number : (x : PlacedData ℕ) (n : ℕ) → Contains xs x → Contains x.dependencies n → IsNumber places n
    depends-number x n among depends =
        let (k, at, one) = h.each x among in
        let (t, target, number) = (one.dependencies stated-once n).0 depends in
        number-is places (offset + t) n number

    replaced-number : (x : PlacedData ℕ) (n : ℕ) → Contains xs x → x.replacement ≡ Some n → IsNumber places n
    replaced-number x n among is =
        let (k, at, one) = h.each x among in
        by x.content.replace (subst (HasReplacement places offset packages x.content.replace) is one.replacement)
      where
        by : (r : Option Identity) → HasReplacement places offset packages r (Some n) → IsNumber places n
        by None e = absurd cc
        by (Some i) (t, last, number) = number-is places (offset + t) n number

    has-number : (n : ℕ) → Has xs n → IsNumber places n
    has-number n (x, among, inl is) = subst (IsNumber places) is (place-number x among)
    has-number n (x, among, inr (inl depends)) = depends-number x n among depends
    has-number n (x, among, inr (inr is)) = replaced-number x n among is

    -- the package at its place
    to-place : (t n : ℕ) (q : PackageData) → slice_get packages t ≡ Some q → IsNumberAt places (offset + t) n → place_at places n ≡ merge_place all q
    to-place t n q at number = place-here places offset packages slots are all begins t n q number at

    is-placed : (k : ℕ) (x : PlacedData ℕ) → IsNumberedAt places offset packages k x → IsPlaced all packages x.content (rename (place_at places) x)
    is-placed k x one = record {
      place = to-place k x.place x.content one.content one.place;
      content = refl;
      found = λ i depends.
          let (t, target) = one.found i depends in
          let (q, at) = refers-within packages i t target in
          let (n, number) = are.all_there t (slice_get_within packages t q at) in (
            place_at places n,
            (t, q, target, at, to-place t n q at number),
            in-map (place_at places) x.dependencies n ((one.dependencies stated-once n).1 (t, (i, depends, target), number)),
          );
      dependencies = λ d among.
          let (n, depends, is) = map-in (place_at places) x.dependencies d among in
          let (t, (i, listed, target), number) = (one.dependencies stated-once n).0 depends in
          let (q, at) = refers-within packages i t target in
          (i, listed, (t, q, target, at, sym is ∙ to-place t n q at number));
      replacement = replaced x.content.replace x.replacement one.replacement;
    }
      where
        replaced : (r : Option Identity) (n : Option ℕ) → HasReplacement places offset packages r n → IsReplacementIn all packages r (option_map (place_at places) n)
        replaced None n e = ap (option_map (place_at places)) e
        replaced (Some i) None e = absurd e
        replaced (Some i) (Some n) (t, stated, number) = (t, stated.0, stated, stated.1, to-place t n stated.0 stated.1 number)

    are-distinct : AllPairs (λ p q. merge_place all p ≢ merge_place all q) packages
    are-distinct i j d less low same =
        let at-i = slice_get-get_or packages i d (omega (arith, less, low)) in
        let at-j = slice_get-get_or packages j d low in
        let is = one-there places offset packages slots are all begins i j (get_or packages i d) (get_or packages j d) at-i at-j same in
        omega (arith, is, less)

    one-at-each : HasOneAtEach (rename_all (place_at places) xs)
    one-at-each i j d less low same =
        let f : PlacedData ℕ → PlacedData Place = rename (place_at places) in
        let long = length-map xs f in
        let low' : j < length xs = omega (arith, low, long) in
        let before : i < length xs = omega (arith, low', less) in
        let e : PlacedData ℕ = get_or xs j (head-of xs j low') in
        let x : PlacedData ℕ = get_or xs i e in
        let y : PlacedData ℕ = get_or xs j e in
        let at-i : get_or (map f xs) i d ≡ f x = get_or-map f xs i e d before in
        let at-j : get_or (map f xs) j d ≡ f y = get_or-map f xs j e d low' in
        let places-same : place_at places x.place ≡ place_at places y.place = sym (ap (λ (z : PlacedData Place). z.place) at-i) ∙ same ∙ ap (λ (z : PlacedData Place). z.place) at-j in
        let one = numbers-one places x.place y.place (place-number x (Contains-get_or xs i e before)) (place-number y (Contains-get_or xs j e low')) places-same in
        let up = far-below (place_numbers xs) h.ascending i j less (let l = length-map xs place_number in omega (arith, low', l)) in
        let i-is = get_or-map place_number xs i e 0 before in
        let j-is = get_or-map place_number xs j e 0 low' in
        omega (arith, up, i-is, j-is, one)
      where
        head-of : (ys : List (PlacedData ℕ)) (k : ℕ) → k < length ys → PlacedData ℕ
        head-of [] k l = absurd (omega (arith, l))
        head-of (y ∷ ys) k l = y

    pub are-numbered : AreNumbered all places packages xs
    are-numbered = record {
      order = h.ascending;
      each = λ k d low. let (t, at, one) = h.each (get_or xs k d) (Contains-get_or xs k d low) in one.ascending;
      numbers = has-number;
      placed = record {
        distinct = are-distinct;
        one = one-at-each;
        each = λ x' among.
            let (x, there, is) = map-in (rename (place_at places)) xs x' among in
            let (k, at, one) = h.each x there in
            (x.content, got-in packages k x.content one.content, subst (IsPlaced all packages x.content) is (is-placed k x one));
        all_there = λ p among.
            let (k, at) = in-got packages p among in
            let low = slice_get_within packages k p at in
            let (n, number) = are.all_there k low in
            let at-n = (are.each n k).1 (low, number) in
            let low-n : n < length places = number.last.0 in
            let (x, there, is) = h.all_there n k low-n at-n in
            let (m, at-m, one) = h.each x there in
            let same-k : m ≡ k = same_Some m k (same_Some (Some m) (Some k) (sym at-m ∙ ap (slice_get slots) is ∙ at-n)) in
            let content : x.content ≡ p = same_Some x.content p (sym one.content ∙ ap (slice_get packages) same-k ∙ at) in
            (rename (place_at places) x, in-map (rename (place_at places)) xs x there, subst (λ (q : PackageData). IsPlaced all packages q (rename (place_at places) x)) content (is-placed m x one));
      };
    }

-- ---- slots that are filled

pub number-made : (places : List Place) (k n : ℕ) → k < length places → ((p : Place) → slice_get places k ≡ Some p → IsLastAt places p n) → IsNumberAt places k n
number-made places k n low h =
    let at = slice_get-get_or places k no_place low in
    record { place = get_or places k no_place; here = at; last = h (get_or places k no_place) at }

module _ (places : List Place) (offset : ℕ) where
  pub slots-start : (slots : List (Option ℕ)) → slots ≡ replicate (length places) None → AreSlots places offset 0 slots
  slots-start slots is = record {
    long = ap length is ∙ length-replicate (length places) None;
    each = λ n i. (
      λ at. absurd (
          let filled : List (Option ℕ) = replicate (length places) None in
          let there : slice_get filled n ≡ Some (Some i) = ap (λ (xs : List (Option ℕ)). slice_get xs n) (sym is) ∙ at in
          let low = slice_get_within filled n (Some i) there in
          let long : length filled ≡ length places = length-replicate (length places) None in
          let e : None ≡ Some i = sym (get_or-replicate (length places) n None (Some i) (omega (arith, low, long))) ∙ get_or_from_slice_get filled n (Some i) (Some i) there in
          cc
          ),
      λ h. absurd (omega (arith, h.0)),
    );
    all_there = λ i low. absurd (omega (arith, low));
  }

  set-here : (slots : List (Option ℕ)) (n : ℕ) (o : Option ℕ) → n < length slots → slice_get (set slots n o) n ≡ Some o
  set-here slots n o low =
      let long = length-set slots n o in
      slice_get-get_or (set slots n o) n None (omega (arith, low, long)) ∙ ap Some (get_or-set_same slots n o None low)

  set-away : (slots : List (Option ℕ)) (n k : ℕ) (o : Option ℕ) → ¬ (k ≡ n) → slice_get (set slots n o) k ≡ slice_get slots k
  set-away slots n k o other = elim (cases_Bool (nat_lt k (length slots))) [
    | inl less ↦
        let low = ltb-true k (length slots) less in
        let long = length-set slots n o in
        slice_get-get_or (set slots n o) k None (omega (arith, low, long)) ∙ ap Some (get_or-set_other slots n k o None other) ∙ sym (slice_get-get_or slots k None low)
    | inr more ↦
        let past = ltb-false k (length slots) more in
        let long = length-set slots n o in
        slice_get_past (set slots n o) k (omega (arith, past, long)) ∙ sym (slice_get_past slots k (omega (arith, past)))
  ]

  pub slots-more : (slots : List (Option ℕ)) (i n : ℕ) → AreSlots places offset i slots → IsNumberAt places (offset + i) n → slice_get slots n ≡ Some None
      → AreSlots places offset (i + 1) (set slots n (Some i))
  slots-more slots i n h number none = record {
    long = length-set slots n (Some i) ∙ h.long;
    each = λ m j. (
      λ at. elim (cases_eq m n) [
        | inl same ↦
            let is : i ≡ j = same_Some i j (same_Some (Some i) (Some j) (sym (set-here slots n (Some i) low) ∙ ap (slice_get (set slots n (Some i))) (sym same) ∙ at)) in
            (omega (arith, is), subst (λ k. IsNumberAt places (offset + k) m) is (subst (IsNumberAt places (offset + i)) (sym same) number))
        | inr other ↦
            let r = (h.each m j).0 (sym (set-away slots n m (Some i) other) ∙ at) in
            (let less = r.0 in omega (arith, less), r.1)
      ],
      λ r. elim (at-most j i r.0) [
        | inl before ↦
            let old = (h.each m j).1 (before, r.1) in
            elim (cases_eq m n) [
              | inl same ↦ absurd (let e = same_Some None (Some j) (sym none ∙ ap (slice_get slots) (sym same) ∙ old) in cc)
              | inr other ↦ set-away slots n m (Some i) other ∙ old
            ]
        | inr last ↦
            let same : m ≡ n = number-one places (offset + i) m n (subst (λ k. IsNumberAt places (offset + k) m) last r.1) number in
            ap (slice_get (set slots n (Some i))) same ∙ set-here slots n (Some i) low ∙ ap (λ k. Some (Some k)) (sym last)
      ],
    );
    all_there = λ j less. elim (at-most j i less) [
      | inl before ↦ h.all_there j before
      | inr last ↦ (n, subst (λ k. IsNumberAt places (offset + k) n) (sym last) number)
    ];
  }
    where
      low : n < length slots
      low = slice_get_within slots n None none

  -- the slot is that of another package at the place
  pub slot-other : (slots : List (Option ℕ)) (i n other : ℕ) → AreSlots places offset i slots → slice_get slots n ≡ Some (Some other) → other < i
  slot-other slots i n other h at = ((h.each n other).0 at).0

  pub slot-fault : (packages : List PackageData) (slots : List (Option ℕ)) (i n other : ℕ) (p q : PackageData) → AreSlots places offset i slots → slice_get slots n ≡ Some (Some other)
      → IsNumberAt places (offset + i) n → slice_get packages other ≡ Some p → slice_get packages i ≡ Some q
      → (all : Lockfiles) → BeginsAt all places packages offset → AreAtOnePlace all packages p q
  slot-fault packages slots i n other p q h at number at-p at-q all begins =
      let r = (h.each n other).0 at in
      record {
        one = other;
        other = i;
        later = r.0;
        one_at = at-p;
        other_at = at-q;
        same = sym (same_Some r.1.place (merge_place all p) (sym r.1.here ∙ begins.here other p at-p))
            ∙ place-one places (offset + other) (offset + i) n r.1 number
            ∙ same_Some number.place (merge_place all q) (sym number.here ∙ begins.here i q at-q);
      }

-- ---- what replaces a package

pub replaced-has : (places : List Place) (offset : ℕ) (packages : List PackageData) (replace : Option Identity) (r : Replaced) → IsReplaced places offset packages replace r → r ≢ Lost
    → HasReplacement places offset packages replace (replaced_place r)
replaced-has places offset packages replace Not h other = subst (λ (o : Option Identity). HasReplacement places offset packages o None) (sym h) refl
replaced-has places offset packages replace (At n) h other = h
replaced-has places offset packages replace Lost h other = absurd (other refl)

pub replaced-lost : (places : List Place) (offset : ℕ) (packages : List PackageData) (k : ℕ) (p : PackageData) (r : Replaced) → slice_get packages k ≡ Some p → IsReplaced places offset packages p.replace r → r ≡ Lost
    → IsUnreplaced packages p
replaced-lost places offset packages k p r at h is =
    let l = subst (IsReplaced places offset packages p.replace) is h in
    record { among = got-in packages k p at; identity = l.0; replaced = l.1; none = l.2 }
