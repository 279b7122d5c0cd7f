-- Which bytes annotations have, and where their lines end.
use Rattle.std.proofs.Common.{◌≡◌, ◌<◌, ◌≤◌, ◌∙◌, ◌==◌, ◌++◌, ◌⊎◌, [], ◌∷◌, ℕ, Bool, true, false, List, Option, None, Some, ap, append-nil, append_assoc, arith, chars, codes, decimal, inl, inr, get_or, refl, subst, sym}
use Rattle.std.specs.Prelude.{eqb, if◌then◌else◌, nat_lt}
use Rattle.std.specs.Char.{encode_utf8}
use Rattle.std.specs.Int.{IsInRange}
use Rattle.std.specs.List.{All, flat_map, slice_split, starts_with}
use Rattle.std.specs.Str.{NoCharPasses}
use Rattle.std.proofs.lemmas.Bool.{cases_Bool, ltb-true}
use Rattle.std.proofs.lemmas.Bool.Decides.{nat_tests}
use Rattle.std.proofs.lemmas.Grind.{get_or_default_zero}
use Rattle.std.proofs.lemmas.List.Elements.{All-append, All-nil, All-weaker}
use Rattle.std.proofs.lemmas.List.Splits.{slice_split_at}
use Rattle.std.proofs.lemmas.Str.{encode_ascii, NoCharPasses-append, NoCharPasses-byte, NoCharPasses-nil}
use Rattle.printing.proofs.Printable.{Prints, decimal-prints, literal, words}
use Rattle.cargo_lock_parts.specs.Ascii.{newline}
use Rattle.cargo_lock_report.specs.declared.escape.Escape.TheVariants.{Message, Property}
use Rattle.cargo_lock_report.specs.declared.reported.Level.TheVariants.{Error, Warning}
use Rattle.cargo_lock_report.specs.declared.reported.Level.{Level}
use Rattle.cargo_lock_report.specs.Annotations.{EachAnnotationIsOneLine, EachLineIsOwn, PropertiesAreApart, annotation_line, annotations_text, ends_line, ends_property, line_property}
use Rattle.cargo_lock_report.specs.Escapes.{message_char, property_char, text_as}
use Rattle.cargo_lock_report.specs.Log.{level_word}
use Rattle.cargo_lock_report.specs.Reported.{ReportedData}

-- ---- characters that no test takes

none-of-char : (p : ℕ → Bool) (c : ℕ) → p c ≡ false → NoCharPasses p (encode_utf8 c)
none-of-char p c h = (c ∷ [], append-nil (encode_utf8 c), (h, tt))

none-of-ascii : (p : ℕ → Bool) (c d e : ℕ) → p c ≡ false → p d ≡ false → p e ≡ false → c < 128 → d < 128 → e < 128 → NoCharPasses p (c ∷ d ∷ e ∷ [])
none-of-ascii p c d e h k j low-c low-d low-e = (c ∷ d ∷ e ∷ [], (λ i. encode_ascii c low-c i ++ (encode_ascii d low-d i ++ (encode_ascii e low-e i ++ []))), (h, (k, (j, tt))))

none-of-each : (p : ℕ → Bool) (f : ℕ → List ℕ) → ((c : ℕ) → NoCharPasses p (f c)) → (cs : List ℕ) → NoCharPasses p (flat_map f cs)
none-of-each p f h [] = NoCharPasses-nil p
none-of-each p f h (c ∷ cs) = NoCharPasses-append p (f c) (flat_map f cs) (h c) (none-of-each p f h cs)

-- in a text in which no character passes no byte does, if none beyond ASCII does
none-of-bytes : (p : ℕ → Bool) → ((b : ℕ) → 128 ≤ b → p b ≡ false) → (text : List ℕ) → NoCharPasses p text → All (λ b. p b ≡ false) text
none-of-bytes p high text none k d low =
    let at : ℕ = get_or text k 0 in
    let passes-not : p at ≡ false = elim (cases_Bool (nat_lt at 128)) [
      | inl small ↦ NoCharPasses-byte p text k none low (ltb-true at 128 small)
      | inr large ↦ high at (grind (arith, nat_tests))
    ] in
    subst (λ b. p b ≡ false) (sym (get_or_default_zero text k d low)) passes-not

ends_line-high : (b : ℕ) → 128 ≤ b → ends_line b ≡ false
ends_line-high b high = grind (arith, nat_tests)

ends_property-high : (b : ℕ) → 128 ≤ b → ends_property b ≡ false
ends_property-high b high = grind (arith, nat_tests)

-- ---- what is escaped

-- of three characters that are escaped and others, whatever holds of the escapes and of the others
by-tests : (P : List ℕ → Type 0) (a b c : Bool) (x y z other : List ℕ) → P x → P y → P z → (a ≡ false → b ≡ false → c ≡ false → P other)
    → P (if a then x else (if b then y else (if c then z else other)))
by-tests P true b c x y z other hx hy hz h = hx
by-tests P false true c x y z other hx hy hz h = hy
by-tests P false false true x y z other hx hy hz h = hz
by-tests P false false false x y z other hx hy hz h = h refl refl refl

message-char-one-line : (c : ℕ) → NoCharPasses ends_line (message_char c)
message-char-one-line c = by-tests (NoCharPasses ends_line) (c == 37) (c == 13) (c == 10) (codes "%25") (codes "%0D") (codes "%0A") (encode_utf8 c)
    (none-of-ascii ends_line 37 50 53 refl refl refl (omega arith) (omega arith) (omega arith))
    (none-of-ascii ends_line 37 48 68 refl refl refl (omega arith) (omega arith) (omega arith))
    (none-of-ascii ends_line 37 48 65 refl refl refl (omega arith) (omega arith) (omega arith))
    (λ percent return line. none-of-char ends_line c (rw (return, line) refl))

by-two : (P : List ℕ → Type 0) (a b : Bool) (x y other : List ℕ) → P x → P y → (a ≡ false → b ≡ false → P other)
    → P (if a then x else (if b then y else other))
by-two P true b x y other hx hy h = hx
by-two P false true x y other hx hy h = hy
by-two P false false x y other hx hy h = h refl refl

property-char-one-line : (c : ℕ) → NoCharPasses ends_line (property_char c)
property-char-one-line c = by-two (NoCharPasses ends_line) (c == 58) (c == 44) (codes "%3A") (codes "%2C") (message_char c)
    (none-of-ascii ends_line 37 51 65 refl refl refl (omega arith) (omega arith) (omega arith))
    (none-of-ascii ends_line 37 50 67 refl refl refl (omega arith) (omega arith) (omega arith))
    (λ colon comma. message-char-one-line c)

-- of a character that is none of these two the escape as a message is neither
message-char-apart : (c : ℕ) → ends_property c ≡ false → NoCharPasses ends_property (message_char c)
message-char-apart c h = by-tests (NoCharPasses ends_property) (c == 37) (c == 13) (c == 10) (codes "%25") (codes "%0D") (codes "%0A") (encode_utf8 c)
    (none-of-ascii ends_property 37 50 53 refl refl refl (omega arith) (omega arith) (omega arith))
    (none-of-ascii ends_property 37 48 68 refl refl refl (omega arith) (omega arith) (omega arith))
    (none-of-ascii ends_property 37 48 65 refl refl refl (omega arith) (omega arith) (omega arith))
    (λ percent return line. none-of-char ends_property c h)

property-char-apart : (c : ℕ) → NoCharPasses ends_property (property_char c)
property-char-apart c = by-two (NoCharPasses ends_property) (c == 58) (c == 44) (codes "%3A") (codes "%2C") (message_char c)
    (none-of-ascii ends_property 37 51 65 refl refl refl (omega arith) (omega arith) (omega arith))
    (none-of-ascii ends_property 37 50 67 refl refl refl (omega arith) (omega arith) (omega arith))
    (λ colon comma. message-char-apart c (rw (colon, comma) refl))

message-one-line : (text : List ℕ) → All (λ b. ends_line b ≡ false) (text_as Message text)
unfolding text_as
message-one-line text = none-of-bytes ends_line ends_line-high (flat_map message_char (chars text))
    (none-of-each ends_line message_char message-char-one-line (chars text))

property-one-line : (text : List ℕ) → All (λ b. ends_line b ≡ false) (text_as Property text)
unfolding text_as
property-one-line text = none-of-bytes ends_line ends_line-high (flat_map property_char (chars text))
    (none-of-each ends_line property_char property-char-one-line (chars text))

pub properties-are-apart : PropertiesAreApart
unfolding text_as
properties-are-apart text = none-of-bytes ends_property ends_property-high (flat_map property_char (chars text))
    (none-of-each ends_property property_char property-char-apart (chars text))

-- ---- lines

printable-other : (b : ℕ) → IsInRange 0x20 0x7E b → ends_line b ≡ false
printable-other b h = grind (arith, nat_tests)

-- a printable text ends no line
prints-no-end : (text : List ℕ) → Prints text → All (λ b. ends_line b ≡ false) text
prints-no-end text h = All-weaker (IsInRange 0x20 0x7E) (λ b. ends_line b ≡ false) printable-other text h.all

words-no-end : (level : Level) → All (λ b. ends_line b ≡ false) (codes "::" ++ (level_word level ++ codes " file="))
words-no-end Error = prints-no-end (codes "::error file=") (literal (codes "::error file=") refl)
words-no-end Warning = prints-no-end (codes "::warning file=") (literal (codes "::warning file=") refl)

line-no-end : (line : Option ℕ) → All (λ b. ends_line b ≡ false) (line_property line)
line-no-end None = All-nil (λ b. ends_line b ≡ false)
line-no-end (Some n) = prints-no-end (codes ",line=" ++ decimal n) (words (codes ",line=") refl (decimal-prints n))

words-apart : (level : Level) (rest : List ℕ) → (codes "::" ++ (level_word level ++ codes " file=")) ++ rest ≡ codes "::" ++ (level_word level ++ (codes " file=" ++ rest))
words-apart Error rest = refl
words-apart Warning rest = refl

one-line : (f : ReportedData) → All (λ b. ends_line b ≡ false) (annotation_line f)
one-line f =
    let P : ℕ → Type 0 = λ b. ends_line b ≡ false in
    let path : List ℕ = text_as Property f.spot.path in
    let line : List ℕ = line_property f.spot.line in
    let message : List ℕ = text_as Message f.message in
    let behind : All P (line ++ (codes "::" ++ message)) = All-append P line (codes "::" ++ message) (line-no-end f.spot.line)
    (All-append P (codes "::") message (prints-no-end (codes "::") (literal (codes "::") refl)) (message-one-line f.message)) in
    subst (All P) (words-apart f.level (path ++ (line ++ (codes "::" ++ message))))
    (All-append P (codes "::" ++ (level_word f.level ++ codes " file=")) (path ++ (line ++ (codes "::" ++ message))) (words-no-end f.level)
    (All-append P path (line ++ (codes "::" ++ message)) (property-one-line f.spot.path) behind))

pub each-annotation-is-one-line : EachAnnotationIsOneLine
each-annotation-is-one-line [] = refl
each-annotation-is-one-line (f ∷ findings) =
    let rest : List ℕ = annotations_text findings in
    ap (slice_split ends_line) (append_assoc (annotation_line f) (newline ∷ []) rest)
    ∙ slice_split_at ends_line (annotation_line f) newline rest (one-line f) refl
    ∙ ap (λ (parts : List (List ℕ)). annotation_line f ∷ parts) (each-annotation-is-one-line findings)

own-word : (level : Level) (rest : List ℕ)
    → (starts_with eqb (codes "::" ++ (level_word level ++ (codes " file=" ++ rest))) (codes "::error file=") ≡ true)
    ⊎ (starts_with eqb (codes "::" ++ (level_word level ++ (codes " file=" ++ rest))) (codes "::warning file=") ≡ true)
own-word Error rest = inl refl
own-word Warning rest = inr refl

pub each-line-is-own : EachLineIsOwn
each-line-is-own f = own-word f.level (text_as Property f.spot.path ++ (line_property f.spot.line
    ++ (codes "::" ++ text_as Message f.message)))
