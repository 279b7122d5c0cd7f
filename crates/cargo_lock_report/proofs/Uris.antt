-- What is escaped of a path.
use Rattle.std.proofs.Common.{◌≡◌, ◌≢◌, ℕ, ◌<◌, ◌≤◌, Bool, true, false, not, ◌||◌, ◌==◌, ◌/◌, ◌%◌, List, [], ◌∷◌, ◌++◌, codes, refl, sym, ap, ◌∙◌, arith, ⊎_elim}
use Rattle.std.specs.Prelude.{eqb, if◌then◌else◌, nat_lt}
use Rattle.std.specs.Fmt.{digit_glyph}
use Rattle.std.specs.Char.{is_ascii_alphanumeric}
use Rattle.std.specs.List.{All, Contains, flat_map, list_any, starts_with}
use borrow.Author.Tests.{ltb-true}
use Rattle.std.proofs.lemmas.Bool.{cond-true, cond-false, cases_Bool}
use Rattle.std.proofs.lemmas.Bool.Decides.{nat_tests}
use Rattle.std.proofs.lemmas.List.Elements.{All-append, All-cons, All-nil}
use Rattle.std.proofs.lemmas.Nat.{mod_below}
use Rattle.url.proofs.SetLemmas.{all_below, checked}
use Rattle.percent_encoding.specs.AsciiSet.{contains, should_percent_encode}
use Rattle.percent_encoding.specs.Percent.{percent_encode, percent_encode_byte, encode_byte}
use Rattle.percent_encoding.proofs.AsciiSetLemmas.{kept_from_outside, escaped_from_inside}
use Rattle.lists.proofs.Tests.{all-passes, none-any}
use Rattle.cargo_lock_report.specs.declared.uri.TheConstants.{PATH}
use Rattle.cargo_lock_report.specs.Uris.{UrisAreClean, escaped_path, is_path_byte}

-- the set holds an ASCII byte exactly if it is escaped in a path
agrees : (b : ℕ) → Bool
agrees b = if contains PATH b then not (is_path_byte b) else is_path_byte b

agrees-below : all_below agrees 128 ≡ true
unfolding agrees
agrees-below = refl

-- no byte beyond ASCII stands as it is
beyond : (b : ℕ) → 128 ≤ b → is_path_byte b ≡ false
beyond b high =
    let no_letter : is_ascii_alphanumeric b ≡ false = grind (arith, nat_tests) in
    let no_mark : (c : ℕ) → Contains (codes "-._~/") c → (b == c) ≡ false = λ c there.
    let below : c < 128 = ltb-true c 128 (all-passes (λ m. nat_lt m 128) (codes "-._~/") refl c there) in
    grind (arith, nat_tests)
    in
    ap (λ t. t || list_any (λ c. b == c) (codes "-._~/")) no_letter ∙ none-any (λ c. b == c) (codes "-._~/") no_mark

below-escapes : (b : ℕ) → b < 128 → should_percent_encode PATH b ≡ not (is_path_byte b)
unfolding agrees
below-escapes b low =
    let one : agrees b ≡ true = checked agrees 128 agrees-below b low in
    ⊎_elim
    (λ inside. escaped_from_inside PATH b inside ∙ sym (sym (cond-true (contains PATH b) (not (is_path_byte b)) (is_path_byte b) inside) ∙ one))
    (λ outside. kept_from_outside PATH b low outside
    ∙ sym (ap not (sym (cond-false (contains PATH b) (not (is_path_byte b)) (is_path_byte b) outside) ∙ one)))
    (cases_Bool (contains PATH b))

escapes : (b : ℕ) → should_percent_encode PATH b ≡ not (is_path_byte b)
unfolding should_percent_encode
escapes b =
    ⊎_elim
    (λ low. below-escapes b (ltb-true b 128 low))
    (λ high. let above : 128 ≤ b = grind (arith, nat_tests) in
    ap (λ t. not t || contains PATH b) high ∙ sym (ap not (beyond b above)))
    (cases_Bool (nat_lt b 128))

byte-escaped : (b : ℕ) → encode_byte PATH b ≡ (if is_path_byte b then b ∷ [] else percent_encode_byte b)
byte-escaped b =
    ⊎_elim
    (λ plain. cond-false _ _ _ (escapes b ∙ ap not plain) ∙ sym (cond-true _ _ _ plain))
    (λ other. cond-true _ _ _ (escapes b ∙ ap not other) ∙ sym (cond-false _ _ _ other))
    (cases_Bool (is_path_byte b))

-- what the set escapes of a path is what is escaped of it
pub percent_encode-path : (path : List ℕ) → percent_encode PATH path ≡ escaped_path path
unfolding percent_encode escaped_path
percent_encode-path [] = refl
percent_encode-path (b ∷ bytes) = λ i. byte-escaped b i ++ percent_encode-path bytes i

-- ---- bytes of references

clean : ℕ → Type 0
clean b = (is_path_byte b || (b == 37 || b == 58)) ≡ true

digit-clean : (d : ℕ) → d < 16 → clean (digit_glyph true d)
unfolding clean
digit-clean d low = grind (arith, nat_tests)

-- a byte, or what it is escaped as
byte-clean : (b : ℕ) (kept : Bool) → is_path_byte b ≡ kept → All clean (if kept then b ∷ [] else percent_encode_byte b)
unfolding clean percent_encode_byte
byte-clean b true is = All-cons clean b [] (rw is refl) (All-nil clean)
byte-clean b false is = All-cons clean 37 (digit_glyph true (b / 16 % 16) ∷ digit_glyph true (b % 16) ∷ []) refl
    (All-cons clean (digit_glyph true (b / 16 % 16)) (digit_glyph true (b % 16) ∷ []) (digit-clean (b / 16 % 16) (mod_below (b / 16) 16 (omega arith)))
    (All-cons clean (digit_glyph true (b % 16)) [] (digit-clean (b % 16) (mod_below b 16 (omega arith))) (All-nil clean)))

path-clean : (path : List ℕ) → All clean (escaped_path path)
unfolding escaped_path
path-clean [] = All-nil clean
path-clean (b ∷ bytes) = All-append clean (if is_path_byte b then b ∷ [] else percent_encode_byte b) (escaped_path bytes)
    (byte-clean b (is_path_byte b) refl) (path-clean bytes)

scheme-clean : All clean (codes "file://")
unfolding clean
scheme-clean = All-cons clean 102 (codes "ile://") refl (All-cons clean 105 (codes "le://") refl (All-cons clean 108 (codes "e://") refl
    (All-cons clean 101 (codes "://") refl (All-cons clean 58 (codes "//") refl (All-cons clean 47 (codes "/") refl (All-cons clean 47 [] refl (All-nil clean)))))))

-- the reference of a path, be it absolute or not
either-clean : (b : Bool) (path : List ℕ) → All clean (if b then codes "file://" ++ escaped_path path else escaped_path path)
either-clean true path = All-append clean (codes "file://") (escaped_path path) scheme-clean (path-clean path)
either-clean false path = path-clean path

pub uris-are-clean : UrisAreClean
unfolding clean
uris-are-clean path = either-clean (starts_with eqb path (codes "/")) path
