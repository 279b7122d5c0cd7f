-- An expression that is printed and read is the same one.
use Rattle.std.proofs.Common.{◌≡◌, ◌==◌, ◌≢◌, ◌∙◌, ◌++◌, ◌∷◌, [], ℕ, Bool, true, false, List, ap, append-nil, append_assoc, bytes_eq, codes, if◌then◌else◌, refl, sym}
use Rattle.std.specs.List.{flat_map}
use Rattle.std.specs.Char.{is_ascii_whitespace}
use Rattle.cargo_lock_licenses.specs.Grammar.{Alternatives, Joined, Part, ReadsAsPart, Single, Tree, both, bracket, either, exception, joined, name, single}
use Rattle.cargo_lock_licenses.specs.Printed.{PrintedReadsAgain, printed, token_text}
use Rattle.cargo_lock_licenses.specs.Tokens.{And, Close, Id, Open, Or, Other, Piece, Sign, TokenData, With, Word, is_letter, onto_word, piece_tokens, pieces, sign_tokens, tokens, word_token}
use Rattle.cargo_lock_licenses.proofs.Pieces.{IsApart, IsWord, tokens-apart}

-- a name: letters, and no operator
record IsName (id : List ℕ) : Type 0 where
  word : IsWord id
  some : id ≢ []
  no_operator : word_token id ≡ Id id

-- each name among the tokens is one
abbrev AreNames : List TokenData → Type 0
AreNames [] = Unit {0}
AreNames (Open ∷ ts) = AreNames ts
AreNames (Close ∷ ts) = AreNames ts
AreNames (Or ∷ ts) = AreNames ts
AreNames (And ∷ ts) = AreNames ts
AreNames (With ∷ ts) = AreNames ts
AreNames (Id id ∷ ts) = IsName id × AreNames ts
AreNames (Other ∷ ts) = AreNames ts

-- ---- the tokens of a text have names

abbrev AreWords : List Piece → Type 0
AreWords [] = Unit {0}
AreWords (Word w ∷ ps) = IsWord w × (w ≢ []) × AreWords ps
AreWords (Sign b ∷ ps) = AreWords ps

some-bytes : (b : ℕ) (w : List ℕ) → b ∷ w ≢ []
some-bytes b w e = cc

onto-words : (b : ℕ) (ps : List Piece) → is_letter b ≡ true → AreWords ps → AreWords (onto_word b ps)
onto-words b [] e h = ((e, tt), some-bytes b [], tt)
onto-words b (Word w ∷ ps) e h = ((e, h.0), some-bytes b w, h.2)
onto-words b (Sign c ∷ ps) e h = ((e, tt), some-bytes b [], h)

words-byte : (b : ℕ) (ps : List Piece) (is : Bool) → is_letter b ≡ is → AreWords ps → AreWords (if is then onto_word b ps else Sign b ∷ ps)
words-byte b ps true e h = onto-words b ps e h
words-byte b ps false e h = h

words : (text : List ℕ) → AreWords (pieces text)
words [] = tt
words (b ∷ text) = words-byte b (pieces text) (is_letter b) refl (words text)

word-names : (w : List ℕ) (ts : List TokenData) → IsWord w → w ≢ [] → AreNames ts → AreNames (word_token w ∷ ts)
word-names w ts word some h = by (bytes_eq w (codes "OR")) (bytes_eq w (codes "AND")) (bytes_eq w (codes "WITH")) refl
  where
    by : (a b c : Bool) → word_token w ≡ (if a then Or else if b then And else if c then With else Id w) → AreNames ((if a then Or else if b then And else if c then With else Id w) ∷ ts)
    by true b c e = h
    by false true c e = h
    by false false true e = h
    by false false false e = (record { word = word; some = some; no_operator = e }, h)

sign-names : (b : ℕ) (ts : List TokenData) → AreNames ts → AreNames (sign_tokens b ++ ts)
sign-names b ts h = by (is_ascii_whitespace b) (b == 40) (b == 41) (b == 47)
  where
    by : (s o c a : Bool) → AreNames ((if s then [] else (if o then Open else if c then Close else if a then Or else Other) ∷ []) ++ ts)
    by true o c a = h
    by false true c a = h
    by false false true a = h
    by false false false true = h
    by false false false false = h

piece-names : (ps : List Piece) → AreWords ps → AreNames (flat_map piece_tokens ps)
piece-names [] h = tt
piece-names (Word w ∷ ps) h = word-names w (flat_map piece_tokens ps) h.0 h.1 (piece-names ps h.2)
piece-names (Sign b ∷ ps) h = sign-names b (flat_map piece_tokens ps) (piece-names ps h)

-- ---- what is printed

names-left : (ts us : List TokenData) → AreNames (ts ++ us) → AreNames ts
names-left [] us h = tt
names-left (Open ∷ ts) us h = names-left ts us h
names-left (Close ∷ ts) us h = names-left ts us h
names-left (Or ∷ ts) us h = names-left ts us h
names-left (And ∷ ts) us h = names-left ts us h
names-left (With ∷ ts) us h = names-left ts us h
names-left (Id id ∷ ts) us h = (h.0, names-left ts us h.1)
names-left (Other ∷ ts) us h = names-left ts us h

names-right : (ts us : List TokenData) → AreNames (ts ++ us) → AreNames us
names-right [] us h = h
names-right (Open ∷ ts) us h = names-right ts us h
names-right (Close ∷ ts) us h = names-right ts us h
names-right (Or ∷ ts) us h = names-right ts us h
names-right (And ∷ ts) us h = names-right ts us h
names-right (With ∷ ts) us h = names-right ts us h
names-right (Id id ∷ ts) us h = names-right ts us h.1
names-right (Other ∷ ts) us h = names-right ts us h

-- a name is one token
name-token : (id rest : List ℕ) → IsName id → IsApart (pieces rest) → tokens (id ++ rest) ≡ Id id ∷ tokens rest
name-token [] rest is apart = absurd (is.some refl)
name-token (b ∷ w) rest is apart = tokens-apart (b ∷ w) rest is.word apart ∙ ap (λ t. t ∷ tokens rest) is.no_operator

printed-append : (ts us : List TokenData) → printed (ts ++ us) ≡ printed ts ++ printed us
printed-append [] us = refl
printed-append (t ∷ ts) us = ap (λ text. token_text t ++ text) (printed-append ts us) ∙ sym (append_assoc (token_text t) (printed ts) (printed us))

-- what is printed of two parts around an operator
around : (ts us : List TokenData) (t : TokenData) (rest : List ℕ) → printed (ts ++ t ∷ us) ++ rest ≡ printed ts ++ (token_text t ++ (printed us ++ rest))
around ts us t rest = ap (λ text. text ++ rest) (printed-append ts (t ∷ us)) ∙ append_assoc (printed ts) (token_text t ++ printed us) rest
    ∙ ap (λ text. printed ts ++ text) (append_assoc (token_text t) (printed us) rest)

part-again : (n : ℕ) (part : Part) (ts : List TokenData) (e : Tree) → ReadsAsPart n part ts e → AreNames ts → (rest : List ℕ) → IsApart (pieces rest)
    → tokens (printed ts ++ rest) ≡ ts ++ tokens rest
part-again _ _ _ _ (name n id) h rest apart = ap (λ text. tokens (text ++ rest)) (append-nil id) ∙ name-token id rest h.0 apart
part-again _ _ _ _ (exception n id other) h rest apart =
    ap tokens (append_assoc id (codes " WITH " ++ (other ++ [])) rest)
    ∙ name-token id (codes " WITH " ++ ((other ++ []) ++ rest)) h.0 tt
    ∙ ap (λ text. Id id ∷ With ∷ tokens (text ++ rest)) (append-nil other)
    ∙ ap (λ ts. Id id ∷ With ∷ ts) (name-token other rest h.1.0 apart)
part-again _ _ _ _ (bracket n ts e inner) h rest apart =
    ap (λ text. Open ∷ tokens text) (around ts [] Close rest)
    ∙ ap (λ us. Open ∷ us) (part-again n Alternatives ts e inner (names-left ts (Close ∷ []) h) (41 ∷ rest) tt)
    ∙ ap (λ us. Open ∷ us) (sym (append_assoc ts (Close ∷ []) (tokens rest)))
part-again _ _ _ _ (single n ts e inner) h rest apart = part-again n Single ts e inner h rest apart
part-again _ _ _ _ (joined n ts e inner) h rest apart = part-again n Joined ts e inner h rest apart
part-again _ _ _ _ (both n ts us l r left right) h rest apart =
    ap tokens (around ts us And rest)
    ∙ part-again n Joined ts l left (names-left ts (And ∷ us) h) (codes " AND " ++ (printed us ++ rest)) tt
    ∙ ap (λ xs. ts ++ And ∷ xs) (part-again n Single us r right (names-right ts (And ∷ us) h) rest apart)
    ∙ sym (append_assoc ts (And ∷ us) (tokens rest))
part-again _ _ _ _ (either n ts us l r left right) h rest apart =
    ap tokens (around ts us Or rest)
    ∙ part-again n Alternatives ts l left (names-left ts (Or ∷ us) h) (codes " OR " ++ (printed us ++ rest)) tt
    ∙ ap (λ xs. ts ++ Or ∷ xs) (part-again n Joined us r right (names-right ts (Or ∷ us) h) rest apart)
    ∙ sym (append_assoc ts (Or ∷ us) (tokens rest))

pub printed-reads-again : PrintedReadsAgain
printed-reads-again text e is =
    ap tokens (sym (append-nil (printed (tokens text))))
    ∙ part-again 100 Alternatives (tokens text) e is (piece-names (pieces text) (words text)) [] tt
    ∙ append-nil (tokens text)
