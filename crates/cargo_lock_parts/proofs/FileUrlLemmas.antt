-- The parts of a path, taken off one by one, and their bytes escaped.
use Rattle.std.proofs.Common.{◌≡◌, ℕ, ◌<◌, ◌≤◌, ◌+◌, Bool, true, false, not, ◌&&◌, ◌||◌, ◌==◌, List, [], ◌∷◌, ◌++◌, length, codes, bytes_eq, refl, sym, ap, ◌∙◌, arith, ⊎_elim, append-nil, append_assoc, filter, All}
use Rattle.std.specs.Prelude.{if◌then◌else◌, nat_lt}
use Rattle.std.specs.Char.{is_ascii_alphanumeric}
use Rattle.std.specs.List.{flat_map, list_all, list_any, slice_split, position_or_len, before_first, after_first}
use borrow.Author.Tests.{ltb-true}
use Rattle.std.proofs.lemmas.Bool.{cond-true, cond-false, cases_Bool, and_parts}
use Rattle.std.proofs.lemmas.Bool.Decides.{nat_tests}
use Rattle.url.proofs.SetLemmas.{all_below, checked}
use Rattle.std.proofs.lemmas.List.Splits.{slice_split_first, slice_split_none}
use Rattle.std.proofs.lemmas.List.Elements.{All-nil, All-cons}
use Rattle.percent_encoding.specs.AsciiSet.{contains, should_percent_encode}
use Rattle.percent_encoding.specs.Percent.{percent_encode, percent_encode_byte, encode_byte}
use Rattle.percent_encoding.proofs.AsciiSetLemmas.{kept_from_outside, escaped_from_inside}
use Rattle.cargo_lock_parts.specs.declared.package.source.file_url.TheConstants.{ESCAPED}
use Rattle.cargo_lock_parts.specs.FileUrl.{is_slash, is_kept_part, plain_marks, is_plain_byte, escaped_part, part_text, kept_text, path_parts_text}

-- ---- the parts

kept_text-cons : (part : List ℕ) (parts : List (List ℕ))
    → flat_map part_text (filter is_kept_part (part ∷ parts)) ≡ kept_text part ++ flat_map part_text (filter is_kept_part parts)
kept_text-cons part parts =
    ⊎_elim
    (λ yes. ap (flat_map part_text) (cond-true _ _ _ yes)
    ∙ ap (λ text. text ++ flat_map part_text (filter is_kept_part parts)) (sym (cond-true _ (part_text part) [] yes)))
    (λ no. ap (flat_map part_text) (cond-false _ _ _ no)
    ∙ ap (λ text. text ++ flat_map part_text (filter is_kept_part parts)) (sym (cond-false _ (part_text part) [] no)))
    (cases_Bool (is_kept_part part))

-- the first part, and the others after it
pub parts_text_first : (path : List ℕ) → position_or_len is_slash path < length path
    → path_parts_text path ≡ kept_text (before_first is_slash path) ++ path_parts_text (after_first is_slash path)
parts_text_first path within =
    ap (λ parts. flat_map part_text (filter is_kept_part parts)) (slice_split_first is_slash path 0 within)
    ∙ kept_text-cons (before_first is_slash path) (slice_split is_slash (after_first is_slash path))

no_slash : (path : List ℕ) → position_or_len is_slash path ≡ length path → All (λ b. is_slash b ≡ false) path
no_slash [] none = All-nil (λ b. is_slash b ≡ false)
no_slash (b ∷ bytes) none =
    ⊎_elim
    (λ yes. absurd (omega (arith, sym (cond-false (not (is_slash b)) (1 + position_or_len is_slash bytes) 0 (ap not yes)) ∙ none)))
    (λ no. All-cons (λ b. is_slash b ≡ false) b bytes no (no_slash bytes (omega (arith, sym (cond-true (not (is_slash b)) (1 + position_or_len is_slash bytes) 0 (ap not no)) ∙ none))))
    (cases_Bool (is_slash b))

-- the one part of a path without a slash
pub parts_text_last : (path : List ℕ) → position_or_len is_slash path ≡ length path → path_parts_text path ≡ kept_text path
parts_text_last path none =
    ap (λ parts. flat_map part_text (filter is_kept_part parts)) (slice_split_none is_slash path (no_slash path none))
    ∙ kept_text-cons path [] ∙ append-nil (kept_text path)

-- ---- the escapes

-- the set holds the ASCII bytes that do not stand as they are
is_right : ℕ → Bool
is_right b = if contains ESCAPED b then not (is_plain_byte b) else is_plain_byte b

all_right : all_below is_right 128 ≡ true
unfolding is_right
all_right = refl

beyond : (b : ℕ) (bytes : List ℕ) → 128 ≤ b → list_all (λ c. nat_lt c 128) bytes ≡ true → list_any (λ c. b == c) bytes ≡ false
beyond b [] high small = refl
beyond b (c ∷ bytes) high small =
    let both = and_parts _ _ small in
    let below : c < 128 = ltb-true c 128 both.0 in
    let differs : (b == c) ≡ false = grind (arith, nat_tests) in
    ap (λ t. t || list_any (λ c. b == c) bytes) differs ∙ beyond b bytes high both.1

no_letter : (b : ℕ) → 128 ≤ b → is_ascii_alphanumeric b ≡ false
no_letter b high = grind (arith, nat_tests)

no_plain_byte : (b : ℕ) → 128 ≤ b → is_plain_byte b ≡ false
no_plain_byte b high =
    ap (λ t. t || list_any (λ c. b == c) plain_marks) (no_letter b high) ∙ beyond b plain_marks high refl

ascii_right : (b : ℕ) → b < 128 → should_percent_encode ESCAPED b ≡ not (is_plain_byte b)
unfolding is_right
ascii_right b ascii =
    let right : is_right b ≡ true = checked is_right 128 all_right b ascii in
    ⊎_elim
    (λ inside. escaped_from_inside ESCAPED b inside ∙ sym (sym (cond-true (contains ESCAPED b) (not (is_plain_byte b)) (is_plain_byte b) inside) ∙ right))
    (λ outside. kept_from_outside ESCAPED b ascii outside
    ∙ sym (ap not (sym (cond-false (contains ESCAPED b) (not (is_plain_byte b)) (is_plain_byte b) outside) ∙ right)))
    (cases_Bool (contains ESCAPED b))

escapes_right : (b : ℕ) → should_percent_encode ESCAPED b ≡ not (is_plain_byte b)
unfolding is_right should_percent_encode
escapes_right b =
    ⊎_elim
    (λ low. ascii_right b (ltb-true b 128 low))
    (λ high. let above : 128 ≤ b = grind (arith, nat_tests) in
    ap (λ t. not t || contains ESCAPED b) high ∙ sym (ap not (no_plain_byte b above)))
    (cases_Bool (nat_lt b 128))

encode_byte_right : (b : ℕ) → encode_byte ESCAPED b ≡ (if is_plain_byte b then b ∷ [] else percent_encode_byte b)
encode_byte_right b =
    ⊎_elim
    (λ plain. cond-false _ _ _ (escapes_right b ∙ ap not plain) ∙ sym (cond-true _ _ _ plain))
    (λ other. cond-true _ _ _ (escapes_right b ∙ ap not other) ∙ sym (cond-false _ _ _ other))
    (cases_Bool (is_plain_byte b))

-- what the set escapes of a part is what a URL escapes of it
pub escaped_right : (part : List ℕ) → percent_encode ESCAPED part ≡ escaped_part part
unfolding percent_encode
escaped_right [] = refl
escaped_right (b ∷ bytes) = λ i. encode_byte_right b i ++ escaped_right bytes i

-- ---- what the loop over the parts does

-- a part that is kept, added after a slash
pub added_part : (part old slash new : List ℕ) → (length part == 0) ≡ false → bytes_eq part (codes ".") ≡ false
    → slash ≡ old ++ codes "/" → new ≡ slash ++ percent_encode ESCAPED part → new ≡ old ++ kept_text part
added_part part old slash new filled other at_slash at_part =
    let kept : is_kept_part part ≡ true = λ i. not (filled i) && not (other i) in
    at_part
    ∙ (λ i. at_slash i ++ escaped_right part i)
    ∙ append_assoc old (codes "/") (escaped_part part)
    ∙ ap (λ text. old ++ text) (sym (cond-true (is_kept_part part) (part_text part) [] kept))

-- a turn adds the first part of what is left
pub parts_turn : (rest part more text new all : List ℕ) → position_or_len is_slash rest < length rest
    → part ≡ before_first is_slash rest → more ≡ after_first is_slash rest → new ≡ text ++ kept_text part
    → text ++ path_parts_text rest ≡ all → new ++ path_parts_text more ≡ all
parts_turn rest part more text new all within at_part at_more at_new so_far =
    (λ i. at_new i ++ path_parts_text (at_more i))
    ∙ append_assoc text (kept_text part) (path_parts_text (after_first is_slash rest))
    ∙ ap (λ p. text ++ (kept_text p ++ path_parts_text (after_first is_slash rest))) at_part
    ∙ ap (λ t. text ++ t) (sym (parts_text_first rest within))
    ∙ so_far

-- what is left at the end is the last part
pub parts_end : (rest text new all : List ℕ) → position_or_len is_slash rest ≡ length rest → new ≡ text ++ kept_text rest
    → text ++ path_parts_text rest ≡ all → new ≡ all
parts_end rest text new all none at_new so_far =
    at_new ∙ ap (λ t. text ++ t) (sym (parts_text_last rest none)) ∙ so_far
