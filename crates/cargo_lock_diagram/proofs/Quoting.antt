-- How labels are read.
use Rattle.std.proofs.Common.{◌≡◌, ◌≢◌, ◌<◌, ◌/◌, ◌%◌, ◌∙◌, ◌==◌, ◌++◌, ◌∷◌, [], inl, inr, ℕ, zero, suc, Bool, true, false, if◌then◌else◌, List, Some, codes, option_map, append_assoc, ap, refl, subst, sym, arith}
use Rattle.std.specs.Prelude.{All, decimal}
use Rattle.std.specs.Fmt.{digit_glyph, digits, digits_onto}
use Rattle.std.specs.Int.{IsInRange}
use Rattle.std.specs.List.{Contains, flat_map}
use Rattle.std.specs.Str.{IsAscii, chars}
use Rattle.std.proofs.lemmas.Bool.{cases_eq}
use Rattle.std.proofs.lemmas.Bool.Decides.{nat_tests}
use Rattle.std.proofs.lemmas.List.Elements.{All-append, All-cons, All-contains, All-contains_itself, All-head, All-nil, All-tail, All-weaker}
use Rattle.std.proofs.lemmas.Nat.{mod_below}
use Rattle.std.proofs.lemmas.Str.{chars-IsAscii, encode_ascii}
use Rattle.cargo_lock_diagram.specs.Labels.{DotLabelIsRead, MermaidLabelHasNoQuote, escaped, escaped_char, is_plain, ampersand, label_quote, Between, read_label, with_byte}
use Rattle.cargo_lock_diagram.specs.declared.label.Target.TheVariants.{Dot, Mermaid}
use Rattle.printing.specs.Laws.{IsPrintable}
use Rattle.printing.specs.Shown.{backslash}
use Rattle.lists.proofs.Members.{joined-in}

-- ---- Graphviz

not-eqb : (a b : ℕ) → ¬ (a ≡ b) → (a == b) ≡ false
not-eqb a b other = grind (arith, nat_tests, other)

read-other : (b : ℕ) (more : List ℕ) → b < 128 → (b == label_quote) ≡ false → (b == backslash) ≡ false → (b == ampersand) ≡ false
    → read_label Between (escaped_char Dot b ++ more) ≡ option_map (with_byte b) (read_label Between more)
unfolding read_label
read-other b more low q s a = rw (q, s, a, encode_ascii b low, q, s, a) refl

read-quote : (more : List ℕ) → read_label Between (escaped_char Dot label_quote ++ more) ≡ option_map (with_byte label_quote) (read_label Between more)
unfolding read_label
read-quote more = rw (encode_ascii label_quote (omega arith)) refl

read-backslash : (more : List ℕ) → read_label Between (escaped_char Dot backslash ++ more) ≡ option_map (with_byte backslash) (read_label Between more)
unfolding read_label
read-backslash more = rw (encode_ascii backslash (omega arith)) refl

read-ampersand : (more : List ℕ) → read_label Between (escaped_char Dot ampersand ++ more) ≡ option_map (with_byte ampersand) (read_label Between more)
unfolding read_label
read-ampersand more = refl

read-byte : (b : ℕ) (more : List ℕ) → b < 128 → read_label Between (escaped_char Dot b ++ more) ≡ option_map (with_byte b) (read_label Between more)
unfolding read_label
read-byte b more low = elim (cases_eq b label_quote) [
  | inl same ↦ subst (λ n. read_label Between (escaped_char Dot n ++ more) ≡ option_map (with_byte n) (read_label Between more)) (sym same) (read-quote more)
  | inr other ↦ elim (cases_eq b backslash) [
    | inl same ↦ subst (λ n. read_label Between (escaped_char Dot n ++ more) ≡ option_map (with_byte n) (read_label Between more)) (sym same) (read-backslash more)
    | inr also ↦ elim (cases_eq b ampersand) [
      | inl same ↦ subst (λ n. read_label Between (escaped_char Dot n ++ more) ≡ option_map (with_byte n) (read_label Between more)) (sym same) (read-ampersand more)
      | inr too ↦ read-other b more low (not-eqb b label_quote other) (not-eqb b backslash also) (not-eqb b ampersand too)
    ]
  ]
]

read-bytes : (text rest : List ℕ) → IsPrintable text → read_label Between (flat_map (escaped_char Dot) text ++ label_quote ∷ rest) ≡ Some (text, rest)
unfolding read_label
read-bytes [] rest h = refl
read-bytes (b ∷ bs) rest h =
    let range : IsInRange 0x20 0x7E b = All-head (IsInRange 0x20 0x7E) b bs h in
    ap (read_label Between) (append_assoc (escaped_char Dot b) (flat_map (escaped_char Dot) bs) (label_quote ∷ rest))
    ∙ read-byte b (flat_map (escaped_char Dot) bs ++ label_quote ∷ rest) (omega arith)
    ∙ ap (option_map (with_byte b)) (read-bytes bs rest (All-tail (IsInRange 0x20 0x7E) b bs h))

pub printable-ascii : (text : List ℕ) → IsPrintable text → IsAscii text
printable-ascii [] h k = omega arith
printable-ascii (b ∷ bs) h zero = let range : IsInRange 0x20 0x7E b = All-head (IsInRange 0x20 0x7E) b bs h in omega arith
printable-ascii (b ∷ bs) h (suc k) = printable-ascii bs (All-tail (IsInRange 0x20 0x7E) b bs h) k

pub dot-read : DotLabelIsRead
unfolding escaped
dot-read text rest h = rw (chars-IsAscii text (printable-ascii text h)) (read-bytes text rest h)

-- ---- Mermaid

digits-all : (P : ℕ → Type 0) → ((n : ℕ) → P (digit_glyph false (n % 10))) → (k n : ℕ) (acc : List ℕ) → All P acc → All P (digits_onto k 10 false n acc)
digits-all P digit zero n acc h = h
digits-all P digit (suc k) n acc h =
    let longer : List ℕ = digit_glyph false (n % 10) ∷ acc in
    let more : All P longer = All-cons P (digit_glyph false (n % 10)) acc (digit n) h in
    elim (n / 10 == 0) as (λ b. All P (if b then longer else digits_onto k 10 false (n / 10) longer)) [
      | true ↦ more
      | false ↦ digits-all P digit k (n / 10) longer more
    ]

glyph-other : (d : ℕ) → d < 10 → digit_glyph false d ≢ 34
glyph-other d lt = grind arith

number-other : (c : ℕ) → All (λ b. b ≢ 34) (decimal c)
unfolding digits
number-other c = digits-all (λ b. b ≢ 34) (λ n. glyph-other (n % 10) (mod_below n 10 (omega arith))) 64 c [] (All-nil (λ b. b ≢ 34))

plain-other : (c : ℕ) → is_plain c ≡ true → c ≢ 34
plain-other c h = grind arith

char-other : (c : ℕ) (b : Bool) → (b ≡ true → c ≢ 34) → All (λ n. n ≢ 34) (if b then c ∷ [] else codes "#" ++ (decimal c ++ codes ";"))
char-other c true h = All-cons (λ n. n ≢ 34) c [] (h refl) (All-nil (λ n. n ≢ 34))
char-other c false h =
    let P : ℕ → Type 0 = λ n. n ≢ 34 in
    let start : All P (codes "#") = All-cons P 35 [] (omega arith) (All-nil P) in
    let end : All P (codes ";") = All-cons P 59 [] (omega arith) (All-nil P) in
    All-append P (codes "#") (decimal c ++ codes ";") start (All-append P (decimal c) (codes ";") (number-other c) end)

pub mermaid-no-quote : MermaidLabelHasNoQuote
unfolding escaped
mermaid-no-quote text =
    let P : ℕ → Type 0 = λ b. b ≢ 34 in
    let written : List ℕ = flat_map (escaped_char Mermaid) (chars text) in
    let no-quote : (b : ℕ) → Contains written b → P b = λ b there.
    let (c, among, in-char) = joined-in (escaped_char Mermaid) (chars text) b there in
    All-contains P (escaped_char Mermaid c) b (char-other c (is_plain c) (plain-other c)) in-char in
    All-weaker (Contains written) P no-quote written (All-contains_itself written)
