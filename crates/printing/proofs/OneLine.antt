-- No newline is in a printed text.
use Rattle.std.proofs.Common.{◌≡◌, ◌≢◌, ◌∙◌, ◌<◌, ◌^◌, ℕ, zero, suc, ◌==◌, ◌&&◌, Bool, true, false, cond, not, List, [], ◌∷◌, ◌++◌, ap, arith, decimal, get_or, inl, inr, refl, subst, sym}
use Rattle.std.proofs.lemmas.Bool.{and_parts, cases_eq, cases_lt, true≢false}
use Rattle.std.proofs.lemmas.Fmt.{decimal_is_IsNumeral}
use Rattle.std.proofs.lemmas.List.Elements.{All-append, All-from_get_or, All-nil}
use Rattle.std.proofs.lemmas.Str.Parse.{digit_at}
use Rattle.std.specs.List.{All, list_all}
use Rattle.json.specs.Print.{begins, ends, escape, escape_byte, print, print_from, quoted, separator, token_text}
use Rattle.json.specs.Token.{Token, bad, begin_array, begin_object, boolean, end_array, end_object, key, null, number, string}
use Rattle.json.proofs.Printed.Strings.{escape_byte_plain}

-- the character is no newline
abbrev pub Fine : ℕ → Type 0
Fine c = c ≢ 10

-- the same as a test
abbrev fine : ℕ → Bool
fine c = not (c == 10)

passes-fine : (c : ℕ) → fine c ≡ true → Fine c
passes-fine c e same = true≢false (sym e ∙ ap fine same)

one-at : (x i : ℕ) → Fine x → i < 1 → Fine (get_or (x ∷ []) i 0)
one-at x zero f l = f
one-at x (suc i) f l = absurd (omega arith)

one : (x : ℕ) → Fine x → All Fine (x ∷ [])
one x f = All-from_get_or Fine (x ∷ []) 0 (λ i l. one-at x i f l)

more : (x : ℕ) (xs : List ℕ) → Fine x → All Fine xs → All Fine (x ∷ xs)
more x xs f fs = All-append Fine (x ∷ []) xs (one x f) fs

-- a text whose characters pass the test
tested : (xs : List ℕ) → list_all fine xs ≡ true → All Fine xs
tested [] e = All-nil Fine
tested (x ∷ xs) e =
    let p = and_parts _ _ e in
    more x xs (passes-fine x p.0) (tested xs p.1)

-- the escapes of the bytes below n have no newline
abbrev escapes_below : ℕ → Bool
escapes_below zero = true
escapes_below (suc n) = list_all fine (escape_byte n) && escapes_below n

escape_below : (n : ℕ) → escapes_below n ≡ true → (x : ℕ) → x < n
    → list_all fine (escape_byte x) ≡ true
escape_below zero e x h = absurd (omega arith)
escape_below (suc n) e x h =
    let p = and_parts _ _ e in
    elim (cases_eq x n) [ inl same ↦ rw same p.0 | inr other ↦ escape_below n p.1 x (omega arith) ]

low_escapes : escapes_below 93 ≡ true
unfolding escape_byte
low_escapes = refl

escaped-byte : (x : ℕ) → All Fine (escape_byte x)
escaped-byte x = elim (cases_lt x 93) [
  | inl low ↦ tested (escape_byte x) (escape_below 93 low_escapes x low)
  | inr high ↦ subst (All Fine)
      (sym (escape_byte_plain x (λ e. omega arith) (λ e. omega arith) (omega arith)))
      (one x (λ e. omega arith))
]

escaped : (s : List ℕ) → All Fine (escape s)
escaped [] = All-nil Fine
escaped (x ∷ xs) = All-append Fine (escape_byte x) (escape xs) (escaped-byte x) (escaped xs)

in_quotes : (s : List ℕ) → All Fine (quoted s)
in_quotes s = more 34 _ (λ e. omega arith)
    (All-append Fine (escape s) (34 ∷ []) (escaped s) (tested (34 ∷ []) refl))

-- the text of a number has no newline; any other token is printed without one
abbrev pub IsLow : Token → Type 0
IsLow begin_object = Unit {0}
IsLow end_object = Unit {0}
IsLow begin_array = Unit {0}
IsLow end_array = Unit {0}
IsLow (key s) = Unit {0}
IsLow (string s) = Unit {0}
IsLow (number s) = All Fine s
IsLow (boolean b) = Unit {0}
IsLow null = Unit {0}
IsLow bad = Unit {0}

abbrev pub AreLow : List Token → Type 0
AreLow [] = Unit {0}
AreLow (t ∷ ts) = IsLow t × AreLow ts

pub AreLow-append : (ts us : List Token) → AreLow ts → AreLow us → AreLow (ts ++ us)
AreLow-append [] us h k = k
AreLow-append (t ∷ ts) us h k = (h.0, AreLow-append ts us h.1 k)

token-line : (t : Token) → IsLow t → All Fine (token_text t)
token-line begin_object h = tested (123 ∷ []) refl
token-line end_object h = tested (125 ∷ []) refl
token-line begin_array h = tested (91 ∷ []) refl
token-line end_array h = tested (93 ∷ []) refl
token-line (key s) h = All-append Fine (quoted s) (58 ∷ []) (in_quotes s) (tested (58 ∷ []) refl)
token-line (string s) h = in_quotes s
token-line (number s) h = h
token-line (boolean true) h = tested (token_text (boolean true)) refl
token-line (boolean false) h = tested (token_text (boolean false)) refl
token-line null h = tested (token_text null) refl
token-line bad h = All-nil Fine

comma-line : (b : Bool) → All Fine (cond b (44 ∷ []) [])
comma-line true = tested (44 ∷ []) refl
comma-line false = All-nil Fine

print-line : (after : Bool) (ts : List Token) → AreLow ts → All Fine (print_from after ts)
unfolding print_from
print-line after [] h = All-nil Fine
print-line after (t ∷ ts) h = All-append Fine (separator after t) _ (comma-line (after && begins t))
    (All-append Fine (token_text t) _ (token-line t h.0) (print-line (ends t) ts h.1))

-- the tokens are printed in one line
pub printed_in_one_line : (ts : List Token) → AreLow ts → All Fine (print ts)
printed_in_one_line ts h = print-line false ts h

-- the digits of a number are in one line
pub decimal-line : (n : ℕ) → n < 2 ^ 64 → All Fine (decimal n)
decimal-line n h = All-from_get_or Fine (decimal n) 0 (λ i l. λ e.
    let digit = digit_at (decimal n) i (decimal_is_IsNumeral n h).0.1 l in
    absurd (omega (arith, digit.0, digit.1, e)))
