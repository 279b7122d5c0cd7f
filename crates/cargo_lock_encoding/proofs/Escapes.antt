-- A text is escaped by its characters as by its bytes.
use Rattle.std.proofs.Common.{◌≡◌, ℕ, ◌<◌, ◌≤◌, false, nat_lt, List, [], ◌∷◌, refl, sym, ◌∙◌, inl, inr, arith, append-nil}
use Rattle.std.proofs.lemmas.Bool.{cases_Bool, cases_lt}
use Rattle.std.proofs.lemmas.Bool.Decides.{nat_tests}
use Rattle.std.proofs.lemmas.Grind.{flat_map-append}
use Rattle.std.proofs.lemmas.Str.{encode_ascii, encodes-chars}
use Rattle.std.proofs.Math.Utf8.{encode, encodes}
use Rattle.std.specs.List.{flat_map, AllByRecursion}
use Rattle.std.specs.Prelude.{IsUtf8}
use Rattle.std.specs.Str.{chars}
use Rattle.cargo_lock_lines.specs.Quoting.{escape, escape_byte}
use Rattle.cargo_lock_encoding.specs.Text.{escape_char}

-- a byte past ASCII stands for itself
byte_high : (b : ℕ) → 128 ≤ b → escape_byte b ≡ b ∷ []
byte_high b h = grind (arith, nat_tests)

bytes_high : (bs : List ℕ) → AllByRecursion (λ b. 128 ≤ b) bs → flat_map escape_byte bs ≡ bs
bytes_high [] h = refl
bytes_high (b ∷ bs) h = rw (byte_high b h.0, bytes_high bs h.1) refl

encode_high : (c : ℕ) → 128 ≤ c → AllByRecursion (λ b. 128 ≤ b) (encode c)
unfolding encode
encode_high c h =
    let ascii : nat_lt c 128 ≡ false = grind (arith, nat_tests) in
    elim (cases_Bool (nat_lt c 2048)) [
      | inl two ↦ rw (ascii, two) (omega arith, (omega arith, tt))
      | inr more ↦ elim (cases_Bool (nat_lt c 65536)) [
        | inl three ↦ rw (ascii, more, three) (omega arith, (omega arith, (omega arith, tt)))
        | inr four ↦ rw (ascii, more, four) (omega arith, (omega arith, (omega arith, (omega arith, tt))))
      ]
    ]

char_high : (c : ℕ) → 128 ≤ c → escape_char c ≡ encode c
char_high c h = grind (arith, nat_tests)

char_low : (c : ℕ) → c < 128 → escape_char c ≡ escape_byte c
char_low c h = rw (encode_ascii c h) refl

char_same : (c : ℕ) → escape_char c ≡ flat_map escape_byte (encode c)
char_same c =
    elim (cases_lt c 128) [
      | inl low ↦ char_low c low ∙ rw (encode_ascii c low) (sym (append-nil (escape_byte c)))
      | inr high ↦ char_high c high ∙ sym (bytes_high (encode c) (encode_high c high))
    ]

chars_same : (cs : List ℕ) → flat_map escape_char cs ≡ flat_map escape_byte (encodes cs)
chars_same [] = refl
chars_same (c ∷ cs) = rw (char_same c, chars_same cs) (sym (flat_map-append escape_byte (encode c) (encodes cs)))

pub escape-chars : (text : List ℕ) → IsUtf8 text → flat_map escape_char (chars text) ≡ escape text
unfolding escape
escape-chars text utf8 = chars_same (chars text) ∙ rw (encodes-chars text utf8) refl
