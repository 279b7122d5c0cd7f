-- A word at the front of a text is one piece of it.
use Rattle.std.proofs.Common.{◌≡◌, ◌∙◌, ◌∷◌, ◌++◌, [], ◌+◌, ◌<◌, ℕ, Bool, true, false, List, add-one, ap, drop, drop-cons, get_or, length, refl, sym, subst, if◌then◌else◌, append_assoc, append-nil}
use Rattle.std.specs.List.{flat_map}
use Rattle.cargo_lock_licenses.specs.Tokens.{Piece, Sign, TokenData, Word, is_letter, onto_word, piece_tokens, pieces, sign_tokens, tokens, word_tokens}

-- each byte is a letter
abbrev pub IsWord : List ℕ → Type 0
IsWord [] = Unit {0}
IsWord (b ∷ w) = (is_letter b ≡ true) × IsWord w

pub word-more : (w : List ℕ) (b : ℕ) → IsWord w → is_letter b ≡ true → IsWord (w ++ b ∷ [])
word-more [] b h e = (e, tt)
word-more (c ∷ w) b h e = (h.0, word-more w b h.1 e)

-- the piece of a word that may be empty
abbrev word_piece : List ℕ → List Piece
word_piece [] = []
word_piece (b ∷ w) = Word (b ∷ w) ∷ []

-- the pieces do not begin with a word
abbrev pub IsApart : List Piece → Type 0
IsApart [] = Unit {0}
IsApart (Word w ∷ rest) = ⊥
IsApart (Sign b ∷ rest) = Unit {0}

onto-apart : (b : ℕ) (ps : List Piece) → IsApart ps → onto_word b ps ≡ Word (b ∷ []) ∷ ps
onto-apart b [] h = refl
onto-apart b (Word w ∷ rest) h = absurd h
onto-apart b (Sign c ∷ rest) h = refl

onto-word : (b : ℕ) (w : List ℕ) (ps : List Piece) → IsApart ps → onto_word b (word_piece w ++ ps) ≡ Word (b ∷ w) ∷ ps
onto-word b [] ps h = onto-apart b ps h
onto-word b (c ∷ w) ps h = refl

pieces-letter : (b : ℕ) (text : List ℕ) → is_letter b ≡ true → pieces (b ∷ text) ≡ onto_word b (pieces text)
pieces-letter b text e = subst (λ (is : Bool). (if is then onto_word b (pieces text) else Sign b ∷ pieces text) ≡ onto_word b (pieces text)) (sym e) refl

pieces-sign : (b : ℕ) (text : List ℕ) → is_letter b ≡ false → pieces (b ∷ text) ≡ Sign b ∷ pieces text
pieces-sign b text e = subst (λ (is : Bool). (if is then onto_word b (pieces text) else Sign b ∷ pieces text) ≡ Sign b ∷ pieces text) (sym e) refl

pieces-word : (w rest : List ℕ) → IsWord w → IsApart (pieces rest) → pieces (w ++ rest) ≡ word_piece w ++ pieces rest
pieces-word [] rest h a = refl
pieces-word (b ∷ w) rest h a = pieces-letter b (w ++ rest) h.0 ∙ ap (onto_word b) (pieces-word w rest h.1 a) ∙ onto-word b w (pieces rest) a

word-tokens : (w : List ℕ) (ps : List Piece) → flat_map piece_tokens (word_piece w ++ ps) ≡ word_tokens w ++ flat_map piece_tokens ps
word-tokens [] ps = refl
word-tokens (b ∷ w) ps = refl

-- a word before what begins with no word
pub tokens-apart : (w rest : List ℕ) → IsWord w → IsApart (pieces rest) → tokens (w ++ rest) ≡ word_tokens w ++ tokens rest
tokens-apart w rest h apart = ap (flat_map piece_tokens) (pieces-word w rest h apart) ∙ word-tokens w (pieces rest)

-- a word at the end
pub tokens-end : (w : List ℕ) → IsWord w → tokens w ≡ word_tokens w
tokens-end w h = ap tokens (sym (append-nil w)) ∙ ap (flat_map piece_tokens) (pieces-word w [] h tt) ∙ word-tokens w [] ∙ append-nil (word_tokens w)

-- a word before a byte that is no letter
pub tokens-sign : (w : List ℕ) (b : ℕ) (rest : List ℕ) → IsWord w → is_letter b ≡ false → tokens (w ++ b ∷ rest) ≡ word_tokens w ++ (sign_tokens b ++ tokens rest)
tokens-sign w b rest h e =
    let apart : IsApart (pieces (b ∷ rest)) = subst IsApart (sym (pieces-sign b rest e)) tt in
    ap (flat_map piece_tokens) (pieces-word w (b ∷ rest) h apart)
    ∙ word-tokens w (pieces (b ∷ rest))
    ∙ ap (λ ps. word_tokens w ++ flat_map piece_tokens ps) (pieces-sign b rest e)

-- what is left after a byte: the tokens that it ended, and the word that it is in
pub tokens-byte : (w : List ℕ) (b : ℕ) (rest : List ℕ) → IsWord w
    → tokens (w ++ b ∷ rest) ≡ (if is_letter b then [] else word_tokens w ++ sign_tokens b) ++ tokens ((if is_letter b then w ++ b ∷ [] else []) ++ rest)
tokens-byte w b rest h = by (is_letter b) refl
  where
    by : (is : Bool) → is_letter b ≡ is → tokens (w ++ b ∷ rest) ≡ (if is then [] else word_tokens w ++ sign_tokens b) ++ tokens ((if is then w ++ b ∷ [] else []) ++ rest)
    by true e = ap tokens (sym (append_assoc w (b ∷ []) rest))
    by false e = tokens-sign w b rest h e ∙ sym (append_assoc (word_tokens w) (sign_tokens b) (tokens rest))

pub word-byte : (w : List ℕ) (b : ℕ) → IsWord w → IsWord (if is_letter b then w ++ b ∷ [] else [])
word-byte w b h = by (is_letter b) refl
  where
    by : (is : Bool) → is_letter b ≡ is → IsWord (if is then w ++ b ∷ [] else [])
    by true e = word-more w b h e
    by false e = tt

-- a step of the loop over the bytes of a text
pub next-byte : (text bytes : List ℕ) (found found' : List TokenData) (w w' : List ℕ) (i : ℕ) → bytes ≡ text → i < length text
    → IsWord w → tokens text ≡ found ++ tokens (w ++ drop i text)
    → found' ≡ found ++ (if is_letter (get_or bytes i 0) then [] else word_tokens w ++ sign_tokens (get_or bytes i 0))
    → w' ≡ (if is_letter (get_or bytes i 0) then w ++ get_or bytes i 0 ∷ [] else [])
    → IsWord w' × (tokens text ≡ found' ++ tokens (w' ++ drop (i + 1) text))
next-byte text bytes found found' w w' i same within word so_far is_found is_word = (
  subst IsWord (sym is_word) (word-byte w b word),
  so_far
      ∙ ap (λ (rest : List ℕ). found ++ tokens (w ++ rest)) split
      ∙ ap (λ (ts : List TokenData). found ++ ts) (tokens-byte w b rest word)
      ∙ sym (append_assoc found ended (tokens (kept ++ rest)))
      ∙ ap (λ (ts : List TokenData). ts ++ tokens (kept ++ rest)) (sym is_found)
      ∙ ap (λ (v : List ℕ). found' ++ tokens (v ++ rest)) (sym is_word),
)
  where
    b : ℕ
    b = get_or bytes i 0

    rest : List ℕ
    rest = drop (i + 1) text

    ended : List TokenData
    ended = if is_letter b then [] else word_tokens w ++ sign_tokens b

    kept : List ℕ
    kept = if is_letter b then w ++ b ∷ [] else []

    split : drop i text ≡ b ∷ rest
    split = rw (add-one, same) (drop-cons text i 0 within)
