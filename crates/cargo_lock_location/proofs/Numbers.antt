-- The numbers of packages, and what they say of the lines.
use Rattle.std.proofs.Common.{◌≡◌, ◌∙◌, ◌+◌, ◌<◌, ◌++◌, ◌||◌, ◌&&◌, ℕ, zero, suc, Bool, Bor, true, false, List, [], ◌∷◌, None, Option, Some, ap, arith, bytes_eq, codes, drop, eqb, get_or, if◌then◌else◌, length, map, nat_eq, not, refl, option_map, slice_get, subst, sym, take, zero-add}
use Rattle.std.specs.List.{list_all, starts_with}
use Rattle.std.proofs.lemmas.Bool.{and_parts, eq-eqb, eqb-true, false≢true}
use Rattle.std.proofs.lemmas.List.{length-map, length-take-le, map-append, take_more}
use Rattle.std.proofs.lemmas.Option.{same_Some, slice_get-get_or, slice_get-map, slice_get_within}
use Rattle.std.proofs.lemmas.Slice.Eq.{bytes_eq-Decides}
use Rattle.cargo_lock_location.specs.Location.{EachPackageIsAnswered, IsLineIf, IsLineIfNamed, IsLineOf, IsNamedBelow, LinesAreThoseOfNames, LinesAreThoseOfPackages, LinesBeginPackages, header_of, headers_from, is_among, is_clear, is_package_header, line_of_header, line_of_name, name_line, numbers_from, package_header, lines_of_names, lines_of_packages, shows_each}

-- ---- one package more

numbers-append : (k : ℕ) (shown : Bool) (lines : List (List ℕ)) (xs ys : List (Option (List ℕ)))
    → numbers_from k shown lines (xs ++ ys) ≡ numbers_from k shown lines xs ++ numbers_from (k + length xs) shown lines ys
numbers-append k shown lines [] ys = ap (λ n. numbers_from n shown lines ys) (omega arith)
numbers-append k shown lines (x ∷ xs) ys =
    ap (λ (ns : List (Option ℕ)). line_of_name lines x (header_of shown lines k) ∷ ns)
    (numbers-append (k + 1) shown lines xs ys
    ∙ ap (λ n. numbers_from (k + 1) shown lines xs ++ numbers_from n shown lines ys) (omega arith))

pub numbers-more : (shown : Bool) (lines : List (List ℕ)) (names : List (Option (Bor (List ℕ)))) (i : ℕ) (name : Option (Bor (List ℕ))) → i < length names
    → numbers_from 0 shown lines (map (option_map (λ t. t.now)) (take (i + 1) names))
    ≡ numbers_from 0 shown lines (map (option_map (λ t. t.now)) (take i names))
    ++ (line_of_name lines (option_map (λ t. t.now) (get_or names i name)) (header_of shown lines i) ∷ [])
numbers-more shown lines names i name within =
    let now : Option (Bor (List ℕ)) → Option (List ℕ) = option_map (λ t. t.now) in
    let before : List (Option (List ℕ)) = map now (take i names) in
    let long : length before ≡ i = length-map (take i names) now ∙ length-take-le i names (omega (arith, within)) in
    ap (λ (xs : List (Option (Bor (List ℕ)))). numbers_from 0 shown lines (map now xs)) (take_more names i name within)
    ∙ ap (numbers_from 0 shown lines) (map-append now (take i names) (get_or names i name ∷ []))
    ∙ numbers-append 0 shown lines before (now (get_or names i name) ∷ [])
    ∙ ap (λ k. numbers_from 0 shown lines before ++ (line_of_name lines (now (get_or names i name)) (header_of shown lines k) ∷ [])) (zero-add (length before) ∙ long)

-- ---- the number at a place

numbers-at : (k : ℕ) (shown : Bool) (lines : List (List ℕ)) (names : List (Option (List ℕ))) (j : ℕ) (name : Option (List ℕ)) → slice_get names j ≡ Some name
    → slice_get (numbers_from k shown lines names) j ≡ Some (line_of_name lines name (header_of shown lines (k + j)))
numbers-at k shown lines [] j name at = cc at
numbers-at k shown lines (x ∷ xs) zero name at =
    ap (λ (y : Option (List ℕ)). Some (line_of_name lines y (header_of shown lines k))) (same_Some x name at)
    ∙ ap (λ n. Some (line_of_name lines name (header_of shown lines n))) (omega arith)
numbers-at k shown lines (x ∷ xs) (suc j) name at =
    numbers-at (k + 1) shown lines xs j name at
    ∙ ap (λ n. Some (line_of_name lines name (header_of shown lines n))) (omega arith)

numbers-none : (k : ℕ) (shown : Bool) (lines : List (List ℕ)) (names : List (Option (List ℕ))) → length (numbers_from k shown lines names) ≡ length names
numbers-none k shown lines [] = refl
numbers-none k shown lines (x ∷ xs) = let e = numbers-none (k + 1) shown lines xs in omega (arith, e)

pub each_package_is_answered : EachPackageIsAnswered
each_package_is_answered lines names =
    numbers-none 0 (shows_each lines (length (map Some names))) lines (map Some names) ∙ length-map names Some

-- ---- the name below

among-named : (name : List ℕ) (ls : List (List ℕ)) → is_among (name_line name) ls ≡ true → IsNamedBelow ls name
among-named name [] e = absurd (false≢true e)
among-named name (line ∷ rest) e =
    let (plain, found) = and_parts (not (starts_with eqb line (codes "["))) (bytes_eq line (name_line name) || is_among (name_line name) rest) e in
    by (bytes_eq line (name_line name)) refl (not-true (starts_with eqb line (codes "[")) plain) found (among-named name rest)
  where
    not-true : (b : Bool) → not b ≡ true → b ≡ false
    not-true true h = absurd (false≢true h)
    not-true false h = refl

    by : (b : Bool) → bytes_eq line (name_line name) ≡ b → starts_with eqb line (codes "[") ≡ false
        → (b || is_among (name_line name) rest) ≡ true → (is_among (name_line name) rest ≡ true → IsNamedBelow rest name) → IsNamedBelow (line ∷ rest) name
    by true same plain found among = record {
      place = 0;
      is = ap Some ((bytes_eq-Decides line (name_line name)).0 same);
      between = first;
    }
      where
        first : (j : ℕ) (l : List ℕ) → j < 0 + 1 → slice_get (line ∷ rest) j ≡ Some l → starts_with eqb l (codes "[") ≡ false
        first zero l low at = subst (λ (x : List ℕ). starts_with eqb x (codes "[") ≡ false) (same_Some line l at) plain
        first (suc j) l low at = absurd (omega (arith, low))
    by false other plain found among =
        let below : IsNamedBelow rest name = among found in
        record {
          place = suc below.place;
          is = below.is;
          between = later below;
        }
      where
        later : (below : IsNamedBelow rest name) (j : ℕ) (l : List ℕ) → j < suc below.place + 1 → slice_get (line ∷ rest) j ≡ Some l
            → starts_with eqb l (codes "[") ≡ false
        later below zero l low at = subst (λ (x : List ℕ). starts_with eqb x (codes "[") ≡ false) (same_Some line l at) plain
        later below (suc j) l low at = below.between j l (omega (arith, low)) at

named-among : (name : List ℕ) (ls : List (List ℕ)) (place : ℕ) → slice_get ls place ≡ Some (name_line name)
    → ((j : ℕ) (line : List ℕ) → j < place + 1 → slice_get ls j ≡ Some line → starts_with eqb line (codes "[") ≡ false)
    → is_among (name_line name) ls ≡ true
named-among name [] place is between = cc is
named-among name (line ∷ rest) zero is between =
    ap (λ (b : Bool). not b && (bytes_eq line (name_line name) || is_among (name_line name) rest)) (between 0 line (omega arith) refl)
    ∙ ap (λ (b : Bool). b || is_among (name_line name) rest) ((bytes_eq-Decides line (name_line name)).1 (same_Some line (name_line name) is))
named-among name (line ∷ rest) (suc place) is between =
    ap (λ (b : Bool). not b && (bytes_eq line (name_line name) || is_among (name_line name) rest)) (between 0 line (omega arith) refl)
    ∙ ap (λ (b : Bool). bytes_eq line (name_line name) || b)
    (named-among name rest place is (λ j l low at. between (suc j) l (omega (arith, low)) at))
    ∙ either (bytes_eq line (name_line name))
  where
    either : (b : Bool) → (b || true) ≡ true
    either true = refl
    either false = refl

-- ---- all lines are clear

clear-each : (ls : List (List ℕ)) → list_all is_clear ls ≡ true → (j : ℕ) (line : List ℕ) → slice_get ls j ≡ Some line → is_clear line ≡ true
clear-each [] all j line at = cc at
clear-each (l ∷ ls) all zero line at =
    subst (λ (x : List ℕ). is_clear x ≡ true) (same_Some l line at) (and_parts (is_clear l) (list_all is_clear ls) all).0
clear-each (l ∷ ls) all (suc j) line at = clear-each ls (and_parts (is_clear l) (list_all is_clear ls) all).1 j line at

each-clear : (ls : List (List ℕ)) → ((j : ℕ) (line : List ℕ) → slice_get ls j ≡ Some line → is_clear line ≡ true) → list_all is_clear ls ≡ true
each-clear [] each = refl
each-clear (l ∷ ls) each =
    ap (λ (b : Bool). b && list_all is_clear ls) (each 0 l refl) ∙ each-clear ls (λ j line at. each (suc j) line at)

-- ---- the law

module _ (lines : List (List ℕ)) (count k : ℕ) (name : List ℕ) where
  shows-lines : (n : ℕ) → IsLineOf lines count k name n → shows_each lines count ≡ true
  shows-lines n h =
      ap (λ (b : Bool). b && list_all is_clear lines) (eq-eqb (length (headers_from 0 lines)) count h.as_many) ∙ each-clear lines h.clear

  none-shown : shows_each lines count ≡ false → IsLineIf lines count k name None
  none-shown hidden n h = absurd (false≢true (sym hidden ∙ shows-lines n h))

  none-there : slice_get (headers_from 0 lines) k ≡ None → IsLineIf lines count k name None
  none-there missing n h = bad (sym missing ∙ h.is_kth)
    where
      bad : ◌≡◌ {A = Option ℕ} None (Some h.place) → ⊥
      bad e = cc e

  none-named : (place : ℕ) → slice_get (headers_from 0 lines) k ≡ Some place → is_among (name_line name) (drop (place + 1) lines) ≡ false
      → IsLineIf lines count k name None
  none-named place here missed n h =
      let same : h.place ≡ place = same_Some h.place place (sym h.is_kth ∙ here) in
      let number : n ≡ place + 1 = h.next ∙ ap (λ q. q + 1) same in
      let below : IsNamedBelow (drop (place + 1) lines) name = subst (λ m. IsNamedBelow (drop m lines) name) number h.named in
      absurd (false≢true (sym missed ∙ named-among name (drop (place + 1) lines) below.place below.is below.between))

  is-line : (place : ℕ) → shows_each lines count ≡ true → slice_get (headers_from 0 lines) k ≡ Some place
      → is_among (name_line name) (drop (place + 1) lines) ≡ true → IsLineOf lines count k name (place + 1)
  is-line place shown here named =
      let (many, clear) = and_parts (nat_eq (length (headers_from 0 lines)) count) (list_all is_clear lines) shown in
      record {
        as_many = eqb-true (length (headers_from 0 lines)) count many;
        clear = clear-each lines clear;
        place = place;
        is_kth = here;
        next = refl;
        named = among-named name (drop (place + 1) lines) named;
      }

  below-by : (place : ℕ) (b : Bool) → shows_each lines count ≡ true → slice_get (headers_from 0 lines) k ≡ Some place
      → is_among (name_line name) (drop (place + 1) lines) ≡ b → IsLineIf lines count k name (if b then Some (place + 1) else None)
  below-by place true shown here named = is-line place shown here named
  below-by place false shown here missed = none-named place here missed

  header-by : (header : Option ℕ) → shows_each lines count ≡ true → slice_get (headers_from 0 lines) k ≡ header
      → IsLineIf lines count k name (line_of_header lines name header)
  header-by None shown missing = none-there missing
  header-by (Some place) shown here = below-by place (is_among (name_line name) (drop (place + 1) lines)) shown here refl

  shown-by : (shown : Bool) → shows_each lines count ≡ shown
      → IsLineIf lines count k name (line_of_header lines name (header_of shown lines k))
  shown-by true shown = header-by (slice_get (headers_from 0 lines) k) shown refl
  shown-by false hidden = none-shown hidden

named-by : (lines : List (List ℕ)) (count k : ℕ) (name : Option (List ℕ))
    → IsLineIfNamed lines count k name (line_of_name lines name (header_of (shows_each lines count) lines k))
named-by lines count k None = refl
named-by lines count k (Some name) = shown-by lines count k name (shows_each lines count) refl

pub lines_are_those_of_names : LinesAreThoseOfNames
lines_are_those_of_names lines names k name found at is =
    let shown = shows_each lines (length names) in
    let same = same_Some (line_of_name lines name (header_of shown lines k)) found (sym (numbers-at 0 shown lines names k name at
    ∙ ap (λ n. Some (line_of_name lines name (header_of shown lines n))) (zero-add k)) ∙ is) in
    subst (IsLineIfNamed lines (length names) k name) same (named-by lines (length names) k name)

pub lines_are_those_of_packages : LinesAreThoseOfPackages
lines_are_those_of_packages lines names k name found at is =
    let there : slice_get (map Some names) k ≡ Some (Some name) = slice_get-map Some names k ∙ ap (option_map Some) at in
    subst (λ count. IsLineIf lines count k name found) (length-map names Some)
    (lines_are_those_of_names lines (map Some names) k (Some name) found there is)

-- ---- the line itself

header-at : (n : ℕ) (lines : List (List ℕ)) (k q : ℕ) → slice_get (headers_from n lines) k ≡ Some q
    → (j : ℕ) × (q ≡ n + j) × (slice_get lines j ≡ Some package_header)
header-at n [] k q at = cc at
header-at n (line ∷ rest) k q at = by (is_package_header line) refl k at (λ j. header-at (n + 1) rest j q)
  where
    later : ((j : ℕ) × (q ≡ n + 1 + j) × (slice_get rest j ≡ Some package_header))
        → (j : ℕ) × (q ≡ n + j) × (slice_get (line ∷ rest) j ≡ Some package_header)
    later below = let e = below.1 in (suc below.0, omega (arith, e), below.2)

    by : (b : Bool) → is_package_header line ≡ b → (k : ℕ)
        → slice_get (if b then n ∷ headers_from (n + 1) rest else headers_from (n + 1) rest) k ≡ Some q
        → ((i : ℕ) → slice_get (headers_from (n + 1) rest) i ≡ Some q → (j : ℕ) × (q ≡ n + 1 + j) × (slice_get rest j ≡ Some package_header))
        → (j : ℕ) × (q ≡ n + j) × (slice_get (line ∷ rest) j ≡ Some package_header)
    by true is zero at below = (0, (let e = same_Some n q at in omega (arith, e)), ap Some ((bytes_eq-Decides line package_header).0 is))
    by true is (suc k) at below = later (below k at)
    by false is k at below = later (below k at)

pub lines_begin_packages : LinesBeginPackages
lines_begin_packages lines names k place at =
    let answers = each_package_is_answered lines names in
    let low = slice_get_within (lines_of_packages lines names) k (Some (place + 1)) at in
    let name : List ℕ = get_or names k [] in
    let there : slice_get names k ≡ Some name = slice_get-get_or names k [] (omega (arith, answers, low)) in
    let line : IsLineOf lines (length names) k name (place + 1) = lines_are_those_of_packages lines names k name (Some (place + 1)) there at in
    let found = header-at 0 lines k line.place line.is_kth in
    let e = line.next in
    let f = found.1 in
    let same : found.0 ≡ place = omega (arith, e, f) in
    subst (λ j. slice_get lines j ≡ Some package_header) same found.2
