-- What a terminal is shown has no hidden character.
use Rattle.std.proofs.Common.{◌≡◌, ◌<◌, ◌++◌, inl, inr, ℕ, cond, true, false, List, [], ◌∷◌, sym, ap, ◌∙◌, arith}
use Rattle.std.specs.Prelude.{All}
use Rattle.std.specs.Int.{IsInRange}
use Rattle.std.specs.List.{flat_map}
use Rattle.std.specs.Char.{IsScalar, encode_utf8}
use Rattle.std.specs.Str.{IsAscii, IsUtf8, all_scalars, chars}
use Rattle.std.proofs.lemmas.Bool.{and_parts, cases_Bool}
use Rattle.std.proofs.lemmas.List.{append-nil}
use Rattle.std.proofs.lemmas.List.Elements.{All-append, All-cons, All-nil, All-same, All-weaker}
use Rattle.std.proofs.lemmas.Str.{IsUtf8-encode, IsUtf8-from_ascii, chars-IsAscii, chars-append, chars-nil, chars_past_char, scalars-chars}
use Rattle.std.proofs.lemmas.Str.Ascii.{IsAscii-from_all}
use Rattle.printing.specs.Shown.{shown}
use Rattle.printing.specs.declared.form.Form.TheVariants.{Plain}
use Rattle.printing.proofs.Printable.{shown-printable}
use Rattle.cli_support.specs.Terminal.{NothingIsHidden, is_hidden, visible, visible_char}

-- the character is shown by a terminal
abbrev IsSeen : ℕ → Type 0
IsSeen c = is_hidden c ≡ false

printable-seen : (c : ℕ) → IsInRange 0x20 0x7E c → IsSeen c
printable-seen c h = grind arith

printable-ascii : (c : ℕ) → IsInRange 0x20 0x7E c → c < 128
printable-ascii c h = let low = h.1 in omega (arith, low)

-- a character that is shown by its number
shown-ascii : (text : List ℕ) → IsAscii (shown Plain text)
shown-ascii text = IsAscii-from_all (shown Plain text) (All-weaker (IsInRange 0x20 0x7E) (λ c. c < 128) printable-ascii (shown Plain text) (shown-printable Plain text))

shown-seen : (text : List ℕ) → All IsSeen (chars (shown Plain text))
shown-seen text = All-same IsSeen (chars (shown Plain text)) (shown Plain text) (chars-IsAscii (shown Plain text) (shown-ascii text))
    (All-weaker (IsInRange 0x20 0x7E) IsSeen printable-seen (shown Plain text) (shown-printable Plain text))

-- a character that is shown as it is
one-char : (c : ℕ) → IsScalar c → chars (encode_utf8 c) ≡ c ∷ []
one-char c is = chars_past_char (encode_utf8 c) [] c (IsUtf8-encode c is) (sym (append-nil (encode_utf8 c))) ∙ ap (λ (cs : List ℕ). c ∷ cs) chars-nil

visible-utf8 : (c : ℕ) → IsScalar c → IsUtf8 (visible_char c)
visible-utf8 c is = elim (is_hidden c) as (λ b. IsUtf8 (cond b (shown Plain (encode_utf8 c)) (encode_utf8 c))) [
  | true ↦ IsUtf8-from_ascii (shown Plain (encode_utf8 c)) (shown-ascii (encode_utf8 c))
  | false ↦ IsUtf8-encode c is
]

visible-seen : (c : ℕ) → IsScalar c → All IsSeen (chars (visible_char c))
visible-seen c is = elim (cases_Bool (is_hidden c)) [
  | inl hidden ↦ rw hidden (shown-seen (encode_utf8 c))
  | inr seen ↦ rw seen (All-same IsSeen (chars (encode_utf8 c)) (c ∷ []) (one-char c is) (All-cons IsSeen c [] seen (All-nil IsSeen)))
]

all-seen : (cs : List ℕ) → all_scalars cs ≡ true → All IsSeen (chars (flat_map visible_char cs))
all-seen [] are = All-same IsSeen (chars []) [] chars-nil (All-nil IsSeen)
all-seen (c ∷ cs) are =
    let (is, rest) = and_parts _ _ are in
    All-same IsSeen (chars (visible_char c ++ flat_map visible_char cs)) (chars (visible_char c) ++ chars (flat_map visible_char cs))
    (chars-append (visible_char c) (flat_map visible_char cs) (visible-utf8 c is))
    (All-append IsSeen (chars (visible_char c)) (chars (flat_map visible_char cs)) (visible-seen c is) (all-seen cs rest))

pub nothing-hidden : NothingIsHidden
unfolding visible
nothing-hidden text utf8 = all-seen (chars text) (scalars-chars text utf8)
