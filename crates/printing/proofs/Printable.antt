-- A shown text has visible characters of ASCII alone.
use Rattle.std.proofs.Common.{◌≡◌, ◌≢◌, ℕ, zero, suc, ◌<◌, ◌/◌, ◌%◌, Bool, true, false, ◌==◌, if◌then◌else◌, List, [], ◌∷◌, ◌++◌, codes, refl, ap, arith}
use Rattle.std.specs.Prelude.{All}
use Rattle.std.specs.Fmt.{decimal, digits, digits_onto, digit_glyph}
use Rattle.std.specs.Int.{IsInRange, is_in_range}
use Rattle.std.specs.List.{flat_map, list_all}
use Rattle.std.specs.Str.{IsAscii, chars}
use Rattle.std.proofs.lemmas.Str.{chars-IsAscii}
use Rattle.std.proofs.lemmas.Bool.{and_parts}
use Rattle.std.proofs.lemmas.List.Elements.{All-append, All-cons, All-head, All-nil, All-tail, All-weaker}
use Rattle.printing.specs.Laws.{IsPrintable, IsVisible, PlainIsVisible, QuotedHasNoBackquote, ShownAsItStands, ShownIsPrintable}
use Rattle.printing.specs.Shown.{by_number, shown, shown_char, is_kept}
use Rattle.printing.specs.declared.form.Form.{Form}
use Rattle.printing.specs.declared.form.Form.TheVariants.{Plain, Quoted}

-- ---- the digits of a number

either-all : (P : ℕ → Type 0) (b : Bool) (xs ys : List ℕ) → All P xs → All P ys → All P (if b then xs else ys)
either-all P true xs ys hx hy = hx
either-all P false xs ys hx hy = hy

digits-all : (P : ℕ → Type 0) (base : ℕ) → ((n : ℕ) → P (digit_glyph false (n % base))) → (k n : ℕ) (acc : List ℕ) → All P acc → All P (digits_onto k base false n acc)
digits-all P base digit zero n acc h = h
digits-all P base digit (suc k) n acc h =
    let more = All-cons P (digit_glyph false (n % base)) acc (digit n) h in
    either-all P (n / base == 0) _ _ more (digits-all P base digit k (n / base) (digit_glyph false (n % base) ∷ acc) more)

by_number-all : (P : ℕ → Type 0) → ((n : ℕ) → P (digit_glyph false (n % 16))) → P 92 → P 117 → P 123 → P 125 → (c : ℕ) → All P (by_number c)
unfolding digits
by_number-all P digit slash u brace shut c =
    let start : All P (codes "\\u{") = All-cons P 92 (117 ∷ 123 ∷ []) slash (All-cons P 117 (123 ∷ []) u (All-cons P 123 [] brace (All-nil P))) in
    let end : All P (codes "}") = All-cons P 125 [] shut (All-nil P) in
    All-append P (codes "\\u{") (digits 16 false c ++ codes "}") start (All-append P (digits 16 false c) (codes "}") (digits-all P 16 digit 64 c [] (All-nil P)) end)

last_digit : (n : ℕ) → n % 16 < 16
last_digit n = omega arith

glyph-visible : (d : ℕ) → d < 16 → IsInRange 0x21 0x7E (digit_glyph false d)
glyph-visible d lt = grind arith

by_number-visible : (c : ℕ) → IsVisible (by_number c)
by_number-visible c = by_number-all (IsInRange 0x21 0x7E) (λ n. glyph-visible (n % 16) (last_digit n)) (omega arith, omega arith) (omega arith, omega arith) (omega arith, omega arith) (omega arith, omega arith) c

glyph-other : (d : ℕ) → d < 16 → digit_glyph false d ≢ 96
glyph-other d lt = grind arith

by_number-other : (c : ℕ) → All (λ b. b ≢ 96) (by_number c)
by_number-other c = by_number-all (λ b. b ≢ 96) (λ n. glyph-other (n % 16) (last_digit n)) (omega arith) (omega arith) (omega arith) (omega arith) c

-- ---- shown texts

-- what is kept is in the range of its form
plain-range : (c : ℕ) → is_kept Plain c ≡ true → IsInRange 0x21 0x7E c
plain-range c h = grind arith

printable-range : (form : Form) (c : ℕ) → is_kept form c ≡ true → IsInRange 0x20 0x7E c
printable-range Plain c h = grind arith
printable-range Quoted c h = grind arith

-- a list of texts in a range, one after another
all-flat_map : (P : ℕ → Type 0) (f : ℕ → List ℕ) → ((c : ℕ) → All P (f c)) → (cs : List ℕ) → All P (flat_map f cs)
all-flat_map P f h [] = All-nil P
all-flat_map P f h (c ∷ cs) = All-append P (f c) (flat_map f cs) (h c) (all-flat_map P f h cs)

char-in : (P : ℕ → Type 0) (c : ℕ) (b : Bool) → All P (by_number c) → (b ≡ true → P c) → All P (if b then c ∷ [] else by_number c)
char-in P c true number h = All-cons P c [] (h refl) (All-nil P)
char-in P c false number h = number

pub plain-visible : PlainIsVisible
unfolding shown
plain-visible text = all-flat_map (IsInRange 0x21 0x7E) (shown_char Plain) (λ c. char-in (IsInRange 0x21 0x7E) c (is_kept Plain c) (by_number-visible c) (plain-range c)) (chars text)

wider : (c : ℕ) → IsInRange 0x21 0x7E c → IsInRange 0x20 0x7E c
wider c h = (omega arith, h.1)

pub shown-printable : ShownIsPrintable
unfolding shown
shown-printable form text = all-flat_map (IsInRange 0x20 0x7E) (shown_char form)
    (λ c. char-in (IsInRange 0x20 0x7E) c (is_kept form c) (All-weaker (IsInRange 0x21 0x7E) (IsInRange 0x20 0x7E) wider (by_number c) (by_number-visible c)) (printable-range form c)) (chars text)

quoted-other : (c : ℕ) → is_kept Quoted c ≡ true → c ≢ 96
quoted-other c h = grind arith

pub quoted-no_backquote : QuotedHasNoBackquote
unfolding shown
quoted-no_backquote text = all-flat_map (λ b. b ≢ 96) (shown_char Quoted) (λ c. char-in (λ b. b ≢ 96) c (is_kept Quoted c) (by_number-other c) (quoted-other c)) (chars text)

-- what is kept is ASCII
kept-ascii : (form : Form) (text : List ℕ) → All (λ b. is_kept form b ≡ true) text → IsAscii text
kept-ascii form [] h k = omega arith
kept-ascii form (b ∷ bs) h zero = let range = printable-range form b (h 0 0 (omega arith)) in omega arith
kept-ascii form (b ∷ bs) h (suc k) = kept-ascii form bs (All-tail (λ c. is_kept form c ≡ true) b bs h) k

each-kept : (form : Form) (text : List ℕ) → All (λ b. is_kept form b ≡ true) text → flat_map (shown_char form) text ≡ text
each-kept form [] h = refl
each-kept form (b ∷ bs) h =
    let head : is_kept form b ≡ true = All-head (λ c. is_kept form c ≡ true) b bs h in
    rw head (ap (λ (rest : List ℕ). b ∷ rest) (each-kept form bs (All-tail (λ c. is_kept form c ≡ true) b bs h)))

pub as-it-stands : ShownAsItStands
unfolding shown
as-it-stands form text h = rw (chars-IsAscii text (kept-ascii form text h)) (each-kept form text h)

-- ---- for the lines that shown texts are parts of

-- `IsPrintable` as a record, so that the texts of a lemma are found from the facts that it takes
pub record Prints (text : List ℕ) : Type 0 where
  pub all : IsPrintable text

pub empty : Prints []
empty = record { all = All-nil (IsInRange 0x20 0x7E) }

pub cons : (b : ℕ) (bs : List ℕ) → IsInRange 0x20 0x7E b → Prints bs → Prints (b ∷ bs)
cons b bs h hs = record { all = All-cons (IsInRange 0x20 0x7E) b bs h hs.all }

-- a literal
pub literal : (text : List ℕ) → list_all (is_in_range 0x20 0x7E) text ≡ true → Prints text
literal [] h = empty
literal (b ∷ bs) h =
    let (head, tail) = and_parts (is_in_range 0x20 0x7E b) (list_all (is_in_range 0x20 0x7E) bs) h in
    let range : IsInRange 0x20 0x7E b = grind arith in
    cons b bs range (literal bs tail)

-- a shown text
pub shown-prints : (form : Form) (text : List ℕ) → Prints (shown form text)
shown-prints form text = record { all = shown-printable form text }

-- one text after another
pub join : {a b : List ℕ} → Prints a → Prints b → Prints (a ++ b)
join {a} {b} ha hb = record { all = All-append (IsInRange 0x20 0x7E) a b ha.all hb.all }

-- a literal and what follows
pub words : (text : List ℕ) → list_all (is_in_range 0x20 0x7E) text ≡ true → {b : List ℕ} → Prints b → Prints (text ++ b)
words text h {b} hb = join (literal text h) hb

-- texts one after another
pub join_each : {X : Type 0} (f : X → List ℕ) → ((x : X) → Prints (f x)) → (xs : List X) → Prints (flat_map f xs)
join_each f h [] = empty
join_each f h (x ∷ xs) = join (h x) (join_each f h xs)

-- either text
pub either_text : (b : Bool) {xs ys : List ℕ} → Prints xs → Prints ys → Prints (if b then xs else ys)
either_text true hx hy = hx
either_text false hx hy = hy

-- a number
decimal_digit : (d : ℕ) → d < 10 → IsInRange 0x20 0x7E (digit_glyph false d)
decimal_digit d lt = grind arith

last_decimal : (n : ℕ) → n % 10 < 10
last_decimal n = omega arith

pub decimal-prints : (n : ℕ) → Prints (decimal n)
unfolding digits
decimal-prints n = record { all = digits-all (IsInRange 0x20 0x7E) 10 (λ m. decimal_digit (m % 10) (last_decimal m)) 64 n [] (All-nil (IsInRange 0x20 0x7E)) }
