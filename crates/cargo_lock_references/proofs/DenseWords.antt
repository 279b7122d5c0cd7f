-- Words of texts without white space: a text that is put together from words has them as its words,
-- and what is read as one word has no white space.
use Rattle.std.proofs.Common.{inl, inr, ◌≡◌, ℕ, zero, suc, ◌+◌, ◌<◌, Bool, true, false, not, List, [], ◌∷◌, ◌++◌, map, length, get_or, refl, sym, subst, ◌∙◌, ap, arith, true≢false, IsUtf8, chars, encode_utf8_all, append-nil, append_assoc}
use Rattle.std.specs.Char.{encode_utf8}
use Rattle.std.specs.Prelude.{filter}
use Rattle.std.specs.List.{AllByRecursion}
use Rattle.std.specs.Char.{is_whitespace, is_not_whitespace}
use Rattle.std.specs.Str.{NonePass, is_utf8}
use Rattle.std.specs.List.{slice_split, onto_first}
use Rattle.std.proofs.Math.Utf8.{scalar, scalars, low_scalar}
use Rattle.std.proofs.Common.{drop, length-append}
use Rattle.std.proofs.Math.Seq.{get_or-append_seam, take-append_seam, drop-append-add}
use Rattle.std.proofs.lemmas.Str.{chars-append, chars-encodes, encodes-chars, scalars-chars, IsUtf8-append, NoCharPasses-byte, IsUtf8-take, IsUtf8-drop, IsUtf8-nil, IsCharBoundary-before_ascii, IsCharBoundary-after_ascii, encode_ascii, length-le-encodes, chars-nil, IsUtf8-from_is_utf8}
use Rattle.std.proofs.lemmas.Bool.{cases_Bool, and_parts}
use Rattle.std.proofs.lemmas.List.Splits.{slice_split_none, slice_split_at, slice_split-cons_yes, slice_split-cons_no}
use Rattle.cargo_lock_references.specs.Words.{words, words_of_chars, is_nonempty, IsWord, IsDense}
use Rattle.cargo_lock_references.proofs.WordLemmas.{All-from_none, words-text}

-- a text between round brackets
abbrev pub bracketed : List ℕ → List ℕ
bracketed t = 40 ∷ (t ++ 41 ∷ [])

-- ---- characters

past_white : (c : ℕ) (cs : List ℕ) → is_whitespace c ≡ true → words_of_chars (c ∷ cs) ≡ words_of_chars cs
past_white c cs white = ap (filter is_nonempty) (slice_split-cons_yes is_whitespace c cs white)

-- a word and then white space
word_first : (w : List ℕ) (c : ℕ) (cs : List ℕ) → is_nonempty w ≡ true → NonePass is_whitespace w → is_whitespace c ≡ true
    → words_of_chars (w ++ c ∷ cs) ≡ w ∷ words_of_chars cs
word_first [] c cs some none white = absurd (true≢false (sym some))
word_first (x ∷ xs) c cs some none white =
    ap (filter is_nonempty) (slice_split_at is_whitespace (x ∷ xs) c cs (All-from_none (x ∷ xs) none) white)

-- a word alone
word_alone : (w : List ℕ) → is_nonempty w ≡ true → NonePass is_whitespace w → words_of_chars w ≡ w ∷ []
word_alone [] some none = absurd (true≢false (sym some))
word_alone (x ∷ xs) some none =
    ap (filter is_nonempty) (slice_split_none is_whitespace (x ∷ xs) (All-from_none (x ∷ xs) none))

-- characters of a part: none is white space, and each is one
pub record Part (cs : List ℕ) : Type 0 where
  pub scalar : scalars cs ≡ true
  pub none : NonePass is_whitespace cs

scalars-cons : (c : ℕ) (cs : List ℕ) → scalars (c ∷ cs) ≡ true → (scalar c ≡ true) × (scalars cs ≡ true)
scalars-cons c cs h = and_parts (scalar c) (scalars cs) h

scalars-both : (c : ℕ) (cs : List ℕ) → scalar c ≡ true → scalars cs ≡ true → scalars (c ∷ cs) ≡ true
scalars-both c cs h t = rw (h, t) refl

parts-onto : (c : ℕ) (ps : List (List ℕ)) → scalar c ≡ true → is_whitespace c ≡ false → AllByRecursion Part ps → AllByRecursion Part (onto_first c ps)
parts-onto c [] s n h = (record { scalar = scalars-both c [] s refl; none = (n, tt) }, tt)
parts-onto c (p ∷ ps) s n h = (record { scalar = scalars-both c p s h.0.scalar; none = (n, h.0.none) }, h.1)

parts-all : (cs : List ℕ) → scalars cs ≡ true → AllByRecursion Part (slice_split is_whitespace cs)
parts-all [] s = (record { scalar = refl; none = tt }, tt)
parts-all (c ∷ cs) s = let p = scalars-cons c cs s in elim (cases_Bool (is_whitespace c)) [
  | inl white ↦ rw (slice_split-cons_yes is_whitespace c cs white) (record { scalar = refl; none = tt }, parts-all cs p.1)
  | inr dark ↦ rw (slice_split-cons_no is_whitespace c cs dark) (parts-onto c (slice_split is_whitespace cs) p.0 dark (parts-all cs p.1))
]

-- a word's characters
abbrev pub WordChars : List ℕ → Type 0
WordChars cs = Part cs × (is_nonempty cs ≡ true)

kept : (ps : List (List ℕ)) → AllByRecursion Part ps → AllByRecursion WordChars (filter is_nonempty ps)
kept [] h = tt
kept ([] ∷ ps) h = kept ps h.1
kept ((c ∷ cs) ∷ ps) h = ((h.0, refl), kept ps h.1)

pub words-are_words : (cs : List ℕ) → scalars cs ≡ true → AllByRecursion WordChars (words_of_chars cs)
words-are_words cs s = kept _ (parts-all cs s)

-- where there is no word there is white space alone
some_part : (c : ℕ) (ps : List (List ℕ)) → ¬ (filter is_nonempty (onto_first c ps) ≡ [])
some_part c [] e = cc
some_part c (p ∷ ps) e = cc

white_from_not : (b : Bool) → b ≡ true → not b ≡ false
white_from_not true h = refl
white_from_not false h = absurd (true≢false (sym h))

pub all-white : (cs : List ℕ) → words_of_chars cs ≡ [] → NonePass is_not_whitespace cs
all-white [] e = tt
all-white (c ∷ cs) e = elim (cases_Bool (is_whitespace c)) [
  | inl white ↦ (white_from_not (is_whitespace c) white, all-white cs (sym (past_white c cs white) ∙ e))
  | inr dark ↦ absurd (some_part c (slice_split is_whitespace cs) (sym (ap (filter is_nonempty) (slice_split-cons_no is_whitespace c cs dark)) ∙ e))
]

last_white : (zs : List ℕ) (y : ℕ) → NonePass is_not_whitespace (zs ++ y ∷ []) → not (is_whitespace y) ≡ false
last_white [] y h = h.0
last_white (z ∷ zs) y h = last_white zs y h.1

pub dark_more : (w : List ℕ) (z : ℕ) → NonePass is_whitespace w → is_whitespace z ≡ false → NonePass is_whitespace (w ++ z ∷ [])
dark_more [] z h n = (n, tt)
dark_more (c ∷ cs) z h n = (h.0, dark_more cs z h.1 n)

nonempty_more : (w xs : List ℕ) → is_nonempty w ≡ true → is_nonempty (w ++ xs) ≡ true
nonempty_more [] xs h = absurd (true≢false (sym h))
nonempty_more (c ∷ cs) xs h = refl

same_first : (v w : List ℕ) (vs ws : List (List ℕ)) → v ∷ vs ≡ w ∷ ws → (v ≡ w) × (vs ≡ ws)
same_first v w vs ws e = (cc, cc)

not-false : (b : Bool) → b ≡ false → not b ≡ false → ⊥
not-false true e h = true≢false e
not-false false e h = true≢false h

-- one word between two ends that are no white space is all there is
pub whole-word : (w zs : List ℕ) (y : ℕ) (v : List ℕ) → is_nonempty w ≡ true → NonePass is_whitespace w → is_whitespace y ≡ false
    → words_of_chars (w ++ (zs ++ y ∷ [])) ≡ v ∷ [] → w ++ (zs ++ y ∷ []) ≡ v
whole-word w [] y v some none dark e =
    (same_first _ _ _ _ (sym (word_alone (w ++ y ∷ []) (nonempty_more w (y ∷ []) some) (dark_more w y none dark)) ∙ e)).0
whole-word w (z ∷ zs) y v some none dark e = elim (cases_Bool (is_whitespace z)) [
  | inl white ↦
      let later = (same_first _ _ _ _ (sym (word_first w z (zs ++ y ∷ []) some none white) ∙ e)).1 in
      absurd (not-false (is_whitespace y) dark (last_white zs y (all-white (zs ++ y ∷ []) later)))
  | inr more ↦
      let assoc : (w ++ z ∷ []) ++ (zs ++ y ∷ []) ≡ w ++ (z ∷ (zs ++ y ∷ [])) = append_assoc w (z ∷ []) (zs ++ y ∷ []) in
      sym assoc ∙ whole-word (w ++ z ∷ []) zs y v (nonempty_more w (z ∷ []) some) (dark_more w z none more) dark (ap words_of_chars assoc ∙ e)
]

-- ---- texts

pub words-utf8 : (t w : List ℕ) (ws : List (List ℕ)) → words t ≡ w ∷ ws → IsUtf8 t
unfolding words
words-utf8 t w ws e = elim (cases_Bool (is_utf8 t)) [
  | inl yes_text ↦ IsUtf8-from_is_utf8 t yes_text
  | inr no_text ↦ let f = rw no_text at e in absurd (let bad : ◌≡◌ {A = List (List ℕ)} [] (w ∷ ws) = f in cc)
]

long-nonempty : (xs : List ℕ) → 0 < length xs → is_nonempty xs ≡ true
long-nonempty [] h = absurd (omega arith)
long-nonempty (x ∷ xs) h = refl

nonempty-long : (xs : List ℕ) → is_nonempty xs ≡ true → 0 < length xs
nonempty-long [] h = absurd (true≢false (sym h))
nonempty-long (x ∷ xs) h = omega arith

word-of_chars : (cs : List ℕ) → WordChars cs → IsWord (encode_utf8_all cs)
word-of_chars cs h =
    let some = nonempty-long cs h.1 in
    record {
      dense = record { letters = cs; encoded = refl; scalar = h.0.scalar; none = h.0.none };
      nonempty = long-nonempty (encode_utf8_all cs) (omega (arith, length-le-encodes cs));
    }

all-encoded : (css : List (List ℕ)) → AllByRecursion WordChars css → AllByRecursion IsWord (map encode_utf8_all css)
all-encoded [] h = tt
all-encoded (cs ∷ css) h = (word-of_chars cs h.0, all-encoded css h.1)

pub words-words : (t : List ℕ) → AllByRecursion IsWord (words t)
unfolding words
words-words t = elim (cases_Bool (is_utf8 t)) [
  | inl yes_text ↦ rw yes_text (all-encoded _ (words-are_words (chars t) (scalars-chars t (IsUtf8-from_is_utf8 t yes_text))))
  | inr no_text ↦ rw no_text tt
]

-- ---- texts put together

pub dense-utf8 : (t : List ℕ) → IsDense t → IsUtf8 t
dense-utf8 t h = (h.letters, (h.scalar, h.encoded))

pub dense-chars : (t : List ℕ) → IsDense t → NonePass is_whitespace (chars t)
dense-chars t h = rw (ap chars (sym h.encoded) ∙ chars-encodes h.letters h.scalar) h.none

some-chars : (cs : List ℕ) → is_nonempty (encode_utf8_all cs) ≡ true → is_nonempty cs ≡ true
some-chars [] h = h
some-chars (c ∷ cs) h = refl

pub word-chars : (w : List ℕ) → IsWord w → is_nonempty (chars w) ≡ true
word-chars w h = some-chars (chars w) (rw (encodes-chars w (dense-utf8 w h.dense)) h.nonempty)

chars-ascii : (c : ℕ) (t : List ℕ) → c < 128 → chars (c ∷ t) ≡ c ∷ chars t
chars-ascii c t low =
    let e : encode_utf8 c ≡ c ∷ [] = encode_ascii c low in
    let s : scalar c ≡ true = low_scalar c (omega arith) in
    let d : encode_utf8_all (c ∷ []) ≡ c ∷ [] = append-nil (encode_utf8 c) ∙ e in
    let u : IsUtf8 (c ∷ []) = (c ∷ [], (rw s refl, d)) in
    chars-append (c ∷ []) t u ∙ ap (λ (l : List ℕ). l ++ chars t) (ap chars (sym d) ∙ chars-encodes (c ∷ []) (rw s refl))

pub utf8-ascii : (c : ℕ) (t : List ℕ) → c < 128 → IsUtf8 t → IsUtf8 (c ∷ t)
utf8-ascii c t low u =
    let e : encode_utf8 c ≡ c ∷ [] = encode_ascii c low in
    (c ∷ u.0, (scalars-both c u.0 (low_scalar c (omega arith)) u.1.0, ap (λ (l : List ℕ). l ++ encode_utf8_all u.0) e ∙ ap (λ (l : List ℕ). c ∷ l) u.1.1))

none-encoded : (css : List (List ℕ)) → map encode_utf8_all css ≡ [] → css ≡ []
none-encoded [] e = refl
none-encoded (cs ∷ css) e = absurd (let bad : ◌≡◌ {A = List (List ℕ)} (encode_utf8_all cs ∷ map encode_utf8_all css) [] = e in cc)

one-encoded : (css : List (List ℕ)) (v : List ℕ) → map encode_utf8_all css ≡ v ∷ [] → (cs : List ℕ) × (css ≡ cs ∷ []) × (encode_utf8_all cs ≡ v)
one-encoded [] v e = absurd (let bad : ◌≡◌ {A = List (List ℕ)} [] (v ∷ []) = e in cc)
one-encoded (cs ∷ css) v e = let p = same_first _ _ _ _ e in (cs, ap (λ (l : List (List ℕ)). cs ∷ l) (none-encoded css p.1), p.0)

-- what stands before and after an ASCII byte
pub utf8-cut : (a b : List ℕ) (c : ℕ) → c < 128 → IsUtf8 (a ++ c ∷ b) → IsUtf8 a × IsUtf8 b
utf8-cut a b c low u =
    let here : get_or (a ++ c ∷ b) (length a) 0 ≡ c = get_or-append_seam a c b 0 in
    let l : length (a ++ c ∷ b) ≡ length a + length (c ∷ b) = length-append a (c ∷ b) in
    let inside : length a < length (a ++ c ∷ b) = omega arith in
    let before = IsUtf8-take (a ++ c ∷ b) (length a) u (IsCharBoundary-before_ascii (a ++ c ∷ b) (length a) inside (omega arith)) in
    let after = IsUtf8-drop (a ++ c ∷ b) (length a + 1) u (IsCharBoundary-after_ascii (a ++ c ∷ b) (length a) u inside (omega arith)) in
    (subst IsUtf8 (take-append_seam a (c ∷ b)) before, subst IsUtf8 (drop-past a c b) after)
  where
    drop-past : (a : List ℕ) (c : ℕ) (b : List ℕ) → drop (length a + 1) (a ++ c ∷ b) ≡ b
    drop-past a c b = drop-append-add a (c ∷ b) 1

-- a text with a visible ASCII byte has a word
pub some-word : (a b : List ℕ) (c : ℕ) → c < 128 → is_not_whitespace c ≡ true → IsUtf8 (a ++ c ∷ b) → ¬ (words (a ++ c ∷ b) ≡ [])
some-word a b c low dark u e =
    let here : get_or (a ++ c ∷ b) (length a) 0 ≡ c = get_or-append_seam a c b 0 in
    let l : length (a ++ c ∷ b) ≡ length a + length (c ∷ b) = length-append a (c ∷ b) in
    let none = none-encoded (words_of_chars (chars (a ++ c ∷ b))) (sym (words-text (a ++ c ∷ b) u) ∙ e) in
    let white = all-white (chars (a ++ c ∷ b)) none in
    let fact = NoCharPasses-byte is_not_whitespace (a ++ c ∷ b) (length a) (chars (a ++ c ∷ b), encodes-chars (a ++ c ∷ b) u, white) (omega arith) (omega arith) in
    true≢false (sym dark ∙ ap is_not_whitespace (sym here) ∙ fact)

pub words-word : (w : List ℕ) → IsWord w → words w ≡ w ∷ []
words-word w h =
    let u = dense-utf8 w h.dense in
    words-text w u ∙ ap (map encode_utf8_all) (word_alone (chars w) (word-chars w h) (dense-chars w h.dense))
    ∙ ap (λ (v : List ℕ). v ∷ []) (encodes-chars w u)

pub words-more : (w rest : List ℕ) → IsWord w → IsUtf8 rest → words (w ++ 32 ∷ rest) ≡ w ∷ words rest
words-more w rest h r =
    let u = dense-utf8 w h.dense in
    let whole : IsUtf8 (w ++ 32 ∷ rest) = IsUtf8-append w (32 ∷ rest) u (utf8-ascii 32 rest (omega arith) r) in
    let cs : chars (w ++ 32 ∷ rest) ≡ chars w ++ 32 ∷ chars rest =
    chars-append w (32 ∷ rest) u ∙ ap (λ (l : List ℕ). chars w ++ l) (chars-ascii 32 rest (omega arith)) in
    words-text (w ++ 32 ∷ rest) whole ∙ ap (λ (l : List ℕ). map encode_utf8_all (words_of_chars l)) cs
    ∙ ap (map encode_utf8_all) (word_first (chars w) 32 (chars rest) (word-chars w h) (dense-chars w h.dense) refl)
    ∙ ap (λ (v : List ℕ). v ∷ map encode_utf8_all (words_of_chars (chars rest))) (encodes-chars w u)
    ∙ ap (λ (ws : List (List ℕ)). w ∷ ws) (sym (words-text rest r))

-- ---- round brackets

bracketed-chars : (t : List ℕ) → IsUtf8 t → chars (bracketed t) ≡ 40 ∷ (chars t ++ 41 ∷ [])
bracketed-chars t u =
    chars-ascii 40 (t ++ 41 ∷ []) (omega arith)
    ∙ ap (λ (l : List ℕ). 40 ∷ l) (chars-append t (41 ∷ []) u ∙ ap (λ (l : List ℕ). chars t ++ l) (chars-ascii 41 [] (omega arith) ∙ ap (λ (l : List ℕ). 41 ∷ l) chars-nil))

pub bracketed-utf8 : (t : List ℕ) → IsUtf8 (bracketed t) → IsUtf8 t
bracketed-utf8 t u = (utf8-cut t [] 41 (omega arith) ((utf8-cut [] (t ++ 41 ∷ []) 40 (omega arith) u).1)).0

pub utf8-bracketed : (t : List ℕ) → IsUtf8 t → IsUtf8 (bracketed t)
utf8-bracketed t u = utf8-ascii 40 (t ++ 41 ∷ []) (omega arith) (IsUtf8-append t (41 ∷ []) u (utf8-ascii 41 [] (omega arith) IsUtf8-nil))

-- one word that is in brackets is the whole text
pub bracketed-whole : (t v : List ℕ) → words (bracketed t) ≡ v ∷ [] → v ≡ bracketed t
bracketed-whole t v e =
    let u = words-utf8 (bracketed t) v [] e in
    let inner = bracketed-utf8 t u in
    let cs = bracketed-chars t inner in
    let one = one-encoded (words_of_chars (chars (bracketed t))) v (sym (words-text (bracketed t) u) ∙ e) in
    let same : 40 ∷ (chars t ++ 41 ∷ []) ≡ one.0 = whole-word (40 ∷ []) (chars t) 41 one.0 refl (refl, tt) refl (ap words_of_chars (sym cs) ∙ one.1) in
    sym one.2 ∙ ap encode_utf8_all (sym same) ∙ ap encode_utf8_all (sym cs) ∙ encodes-chars (bracketed t) u

none-front : (p : ℕ → Bool) (xs ys : List ℕ) → NonePass p (xs ++ ys) → NonePass p xs
none-front p [] ys h = tt
none-front p (x ∷ xs) ys h = (h.0, none-front p xs ys h.1)

pub bracketed-dense : (t : List ℕ) → IsWord (bracketed t) → IsDense t
bracketed-dense t h =
    let inner = bracketed-utf8 t (dense-utf8 (bracketed t) h.dense) in
    let all = rw (bracketed-chars t inner) at (dense-chars (bracketed t) h.dense) in
    record { letters = chars t; encoded = encodes-chars t inner; scalar = scalars-chars t inner; none = none-front is_whitespace (chars t) (41 ∷ []) all.1 }

none-both : (xs ys : List ℕ) → NonePass is_whitespace xs → NonePass is_whitespace ys → NonePass is_whitespace (xs ++ ys)
none-both [] ys h g = g
none-both (x ∷ xs) ys h g = (h.0, none-both xs ys h.1 g)

pub dense-bracketed : (t : List ℕ) → IsDense t → IsWord (bracketed t)
dense-bracketed t h =
    let u = dense-utf8 t h in
    let whole = utf8-bracketed t u in
    record {
      dense = record {
        letters = chars (bracketed t);
        encoded = encodes-chars (bracketed t) whole;
        scalar = scalars-chars (bracketed t) whole;
        none = rw (bracketed-chars t u) (refl, none-both (chars t) (41 ∷ []) (dense-chars t h) (refl, tt));
      };
      nonempty = refl;
    }

-- ---- the test of a text

pub none-at : (p : ℕ → Bool) (cs : List ℕ) (i d : ℕ) → NonePass p cs → i < length cs → p (get_or cs i d) ≡ false
none-at p [] i d h l = absurd (omega arith)
none-at p (c ∷ cs) zero d h l = h.0
none-at p (c ∷ cs) (suc i) d h l = none-at p cs i d h.1 (omega arith)

pub map-same : {X : Type 0} (xs : List X) → map (λ x. x) xs ≡ xs
map-same [] = refl
map-same (x ∷ xs) = ap (λ ys. x ∷ ys) (map-same xs)

pub dense-from_chars : (t : List ℕ) (cs : List ℕ) → IsUtf8 t → map (λ x. x) cs ≡ chars t → NonePass is_whitespace cs → IsDense t
dense-from_chars t cs u e h = record { letters = chars t; encoded = encodes-chars t u; scalar = scalars-chars t u; none = subst (NonePass is_whitespace) (sym (map-same cs) ∙ e) h }

pub not_dense : (t : List ℕ) (i c : ℕ) → i < length (chars t) → c ≡ get_or (chars t) i c → is_whitespace c ≡ true → IsDense t → ⊥
not_dense t i c l here white h = true≢false (sym white ∙ ap is_whitespace here ∙ none-at is_whitespace (chars t) i c (dense-chars t h) l)
