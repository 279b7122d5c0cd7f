-- The text of a version that was parsed has no newline.
use Rattle.std.proofs.Common.{◌≡◌, ℕ, Bool, ◌<◌, ◌^◌, ◌==◌, eqb, true, false, List, [], ◌∷◌, refl, arith, inl, inr, Ok}
use Rattle.std.proofs.lemmas.Bool.{and_from, and_parts, cases_Bool, eqb-true, ne_eqb, or_from}
use Rattle.std.proofs.lemmas.List.Elements.{recursion_from_All}
use Rattle.std.specs.Fmt.{decimal}
use Rattle.std.specs.Int.{IsInRange}
use Rattle.std.specs.List.{AllByRecursion, list_all, onto_first}
use Rattle.semver.proofs.Grammar.{version_parts-sound}
use Rattle.semver.specs.Grammar.{IsValid, is_build, is_build_identifier, is_identifier_byte, is_pre_identifier, is_pre_release}
use Rattle.semver.specs.Identifiers.{marked, parts_text}
use Rattle.semver.specs.Order.{parts}
use Rattle.semver.specs.Parse.{Parts, version_parts}
use Rattle.url.proofs.HostRoundTrip.{All-decimal}
use Rattle.cargo_lock_graph.specs.Drawing.{is_one_of}
use Rattle.cargo_lock_graph.proofs.DrawingLines.{among-append}

-- ---- identifiers between dots

abbrev bytes : List ℕ → Bool
bytes = list_all is_identifier_byte

byte-plain : (x : ℕ) → is_identifier_byte x ≡ true → eqb 10 x ≡ false
byte-plain x h = grind arith

first-part : (x : ℕ) (ps : List (List ℕ)) → list_all bytes (onto_first x ps) ≡ true → (is_identifier_byte x ≡ true) × (list_all bytes ps ≡ true)
first-part x [] h = let p = and_parts (bytes (x ∷ [])) true h in ((and_parts (is_identifier_byte x) true p.0).0, refl)
first-part x (p ∷ ps) h =
    let a = and_parts (bytes (x ∷ p)) (list_all bytes ps) h in
    let b = and_parts (is_identifier_byte x) (bytes p) a.0 in
    (b.0, and_from (bytes p) (list_all bytes ps) b.1 a.1)

parts-plain : (xs : List ℕ) → list_all bytes (parts xs) ≡ true → is_one_of 10 xs ≡ false
parts-plain [] h = refl
parts-plain (x ∷ xs) h = elim (cases_Bool (x == 46)) [
  | inl dot ↦
      let same : x ≡ 46 = eqb-true x 46 dot in
      or_from (eqb 10 x) (is_one_of 10 xs) (rw same refl) (parts-plain xs (rw dot at h))
  | inr other ↦
      let p = first-part x (parts xs) (rw other at h) in
      or_from (eqb 10 x) (is_one_of 10 xs) (byte-plain x p.0) (parts-plain xs p.1)
]

build-bytes : (ps : List (List ℕ)) → list_all is_build_identifier ps ≡ true → list_all bytes ps ≡ true
build-bytes [] h = refl
build-bytes (p ∷ ps) h =
    let a = and_parts (is_build_identifier p) (list_all is_build_identifier ps) h in
    and_from (bytes p) (list_all bytes ps) (and_parts _ (bytes p) a.0).1 (build-bytes ps a.1)

pre-bytes : (ps : List (List ℕ)) → list_all is_pre_identifier ps ≡ true → list_all bytes ps ≡ true
pre-bytes [] h = refl
pre-bytes (p ∷ ps) h =
    let a = and_parts (is_pre_identifier p) (list_all is_pre_identifier ps) h in
    let b = and_parts (is_build_identifier p) _ a.0 in
    and_from (bytes p) (list_all bytes ps) (and_parts _ (bytes p) b.0).1 (pre-bytes ps a.1)

pre-plain : (xs : List ℕ) → is_pre_release xs ≡ true → is_one_of 10 xs ≡ false
pre-plain [] h = refl
pre-plain (x ∷ xs) h = parts-plain (x ∷ xs) (pre-bytes (parts (x ∷ xs)) h)

build-plain : (xs : List ℕ) → is_build xs ≡ true → is_one_of 10 xs ≡ false
build-plain [] h = refl
build-plain (x ∷ xs) h = parts-plain (x ∷ xs) (build-bytes (parts (x ∷ xs)) h)

-- ---- the text

marked-plain : (mark : ℕ) (xs : List ℕ) → eqb 10 mark ≡ false → is_one_of 10 xs ≡ false → is_one_of 10 (marked mark xs) ≡ false
marked-plain mark [] h k = refl
marked-plain mark (x ∷ xs) h k = or_from (eqb 10 mark) (is_one_of 10 (x ∷ xs)) h k

digits-plain : (xs : List ℕ) → AllByRecursion (IsInRange 48 57) xs → is_one_of 10 xs ≡ false
digits-plain [] h = refl
digits-plain (x ∷ xs) h =
    or_from (eqb 10 x) (is_one_of 10 xs) (ne_eqb 10 x (λ same. let low = h.0 in omega arith)) (digits-plain xs h.1)

number-plain : (n : ℕ) → n < 2 ^ 64 → is_one_of 10 (decimal n) ≡ false
number-plain n h = digits-plain (decimal n) (recursion_from_All _ (decimal n) (All-decimal n h))

valid-plain : (v : Parts) → IsValid v → is_one_of 10 (parts_text v) ≡ false
valid-plain v h =
    among-append 10 (decimal v.0) _ (number-plain v.0 h.0)
    (among-append 10 (46 ∷ decimal v.1) _ (number-plain v.1 h.1)
    (among-append 10 (46 ∷ decimal v.2) _ (number-plain v.2 h.2)
    (among-append 10 (marked 45 v.3) (marked 43 v.4) (marked-plain 45 v.3 refl (pre-plain v.3 h.3)) (marked-plain 43 v.4 refl (build-plain v.4 h.4)))))

pub version-plain : (text : List ℕ) (v : Parts) → version_parts text ≡ Ok v → is_one_of 10 (parts_text v) ≡ false
version-plain text v h = valid-plain v (version_parts-sound text v h).1
