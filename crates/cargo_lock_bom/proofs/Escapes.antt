-- What a set of bytes escapes, by the bytes that stand as they are.
use Rattle.std.proofs.Common.{◌≡◌, ℕ, ◌<◌, ◌≤◌, Bool, true, false, not, ◌||◌, ◌==◌, List, [], ◌∷◌, ◌++◌, refl, sym, ap, ◌∙◌, arith, ⊎_elim}
use Rattle.std.specs.Prelude.{if◌then◌else◌, nat_lt}
use Rattle.std.specs.Char.{is_ascii_alphanumeric}
use Rattle.std.specs.List.{Contains, list_all, list_any}
use borrow.Author.Tests.{ltb-true}
use Rattle.std.proofs.lemmas.Bool.{cond-true, cond-false, cases_Bool}
use Rattle.std.proofs.lemmas.Bool.Decides.{nat_tests}
use Rattle.url.proofs.SetLemmas.{all_below, checked}
use Rattle.percent_encoding.specs.declared.ascii_set.AsciiSet.{AsciiSet}
use Rattle.percent_encoding.specs.AsciiSet.{contains, should_percent_encode}
use Rattle.percent_encoding.specs.Percent.{percent_encode, percent_encode_byte, encode_byte}
use Rattle.percent_encoding.proofs.AsciiSetLemmas.{kept_from_outside, escaped_from_inside}
use Rattle.lists.proofs.Tests.{all-passes, none-any}
use Rattle.cargo_lock_bom.specs.declared.purl.TheConstants.{SEGMENT, VALUE}
use Rattle.cargo_lock_bom.specs.declared.iri.TheConstants.{HOST, IRI}
use Rattle.cargo_lock_bom.specs.Iri.{plain_host_marks, plain_iri_marks, escaped_host, escaped_iri}
use Rattle.cargo_lock_bom.specs.Purl.{plain_segment_marks, plain_url_marks, is_unescaped, escaped_but, escaped_text, escaped_url}

-- the set holds the ASCII byte exactly if it does not stand as it is
is_right : AsciiSet → List ℕ → ℕ → Bool
is_right set marks b = if contains set b then not (is_unescaped marks b) else is_unescaped marks b

module _ (set : AsciiSet) (marks : List ℕ) (right : all_below (is_right set marks) 128 ≡ true) (ascii : list_all (λ c. nat_lt c 128) marks ≡ true) where
  not_plain : (b : ℕ) → 128 ≤ b → is_unescaped marks b ≡ false
  not_plain b high =
      let no_letter : is_ascii_alphanumeric b ≡ false = grind (arith, nat_tests) in
      let no_mark : (c : ℕ) → Contains marks c → (b == c) ≡ false = λ c there.
      let below : c < 128 = ltb-true c 128 (all-passes (λ m. nat_lt m 128) marks ascii c there) in
      grind (arith, nat_tests)
      in
      ap (λ t. t || list_any (λ c. b == c) marks) no_letter ∙ none-any (λ c. b == c) marks no_mark

  ascii_right : (b : ℕ) → b < 128 → should_percent_encode set b ≡ not (is_unescaped marks b)
  unfolding is_right
  ascii_right b low =
      let one : is_right set marks b ≡ true = checked (is_right set marks) 128 right b low in
      ⊎_elim
      (λ inside. escaped_from_inside set b inside ∙ sym (sym (cond-true (contains set b) (not (is_unescaped marks b)) (is_unescaped marks b) inside) ∙ one))
      (λ outside. kept_from_outside set b low outside
      ∙ sym (ap not (sym (cond-false (contains set b) (not (is_unescaped marks b)) (is_unescaped marks b) outside) ∙ one)))
      (cases_Bool (contains set b))

  escapes_right : (b : ℕ) → should_percent_encode set b ≡ not (is_unescaped marks b)
  unfolding should_percent_encode
  escapes_right b =
      ⊎_elim
      (λ low. ascii_right b (ltb-true b 128 low))
      (λ high. let above : 128 ≤ b = grind (arith, nat_tests) in
      ap (λ t. not t || contains set b) high ∙ sym (ap not (not_plain b above)))
      (cases_Bool (nat_lt b 128))

  encode_byte_right : (b : ℕ) → encode_byte set b ≡ (if is_unescaped marks b then b ∷ [] else percent_encode_byte b)
  encode_byte_right b =
      ⊎_elim
      (λ plain. cond-false _ _ _ (escapes_right b ∙ ap not plain) ∙ sym (cond-true _ _ _ plain))
      (λ other. cond-true _ _ _ (escapes_right b ∙ ap not other) ∙ sym (cond-false _ _ _ other))
      (cases_Bool (is_unescaped marks b))

  all_right : (text : List ℕ) → percent_encode set text ≡ escaped_but marks text
  unfolding percent_encode
  all_right [] = refl
  all_right (b ∷ bytes) = λ i. encode_byte_right b i ++ all_right bytes i

segment_right : all_below (is_right SEGMENT plain_segment_marks) 128 ≡ true
unfolding is_right
segment_right = refl

value_right : all_below (is_right VALUE plain_url_marks) 128 ≡ true
unfolding is_right
value_right = refl

iri_right : all_below (is_right IRI plain_iri_marks) 128 ≡ true
unfolding is_right
iri_right = refl

host_right : all_below (is_right HOST plain_host_marks) 128 ≡ true
unfolding is_right
host_right = refl

-- what is escaped of a name or a version
pub percent_encode-segment : (text : List ℕ) → percent_encode SEGMENT text ≡ escaped_text text
unfolding escaped_text
percent_encode-segment text = all_right SEGMENT plain_segment_marks segment_right refl text

-- what is escaped of a URL
pub percent_encode-value : (text : List ℕ) → percent_encode VALUE text ≡ escaped_url text
unfolding escaped_url
percent_encode-value text = all_right VALUE plain_url_marks value_right refl text

-- what is escaped in a reference
pub percent_encode-iri : (text : List ℕ) → percent_encode IRI text ≡ escaped_iri text
unfolding escaped_iri
percent_encode-iri text = all_right IRI plain_iri_marks iri_right refl text

-- what is escaped in a host
pub percent_encode-host : (text : List ℕ) → percent_encode HOST text ≡ escaped_host text
unfolding escaped_host
percent_encode-host text = all_right HOST plain_host_marks host_right refl text
