-- The tokens of a licence expression, and those of a text.
use Rattle.std.specs.Prelude.{◌==◌, ◌||◌, [], ◌∷◌, ℕ, Bool, List, bytes_eq, codes}
use Rattle.std.specs.Prelude.{if◌then◌else◌, string_bytes}
use Rattle.std.specs.Char.{is_ascii_alphanumeric, is_ascii_whitespace}
use Rattle.std.specs.List.{flat_map}
use Rattle.cargo_lock_licenses.specs.declared.token.Token.{Token}
use Rattle.cargo_lock_licenses.specs.declared.token.Token.TheVariants as token

-- a token: a bracket, an operator, the name of a licence or of an exception, or a byte that is in
-- no expression
pub data TokenData : Type 0 where
  Open : TokenData
  Close : TokenData
  Or : TokenData
  And : TokenData
  With : TokenData
  Id : List ℕ → TokenData
  Other : TokenData

-- the data of a token of the program
abbrev pub token_of : Token → TokenData
token_of token.Open = Open
token_of token.Close = Close
token_of token.Or = Or
token_of token.And = And
token_of token.With = With
token_of (token.Id id) = Id (string_bytes id)
token_of token.Other = Other

-- the byte can be in a name: an ASCII letter or digit, or one of `-.+:`
abbrev pub is_letter : ℕ → Bool
is_letter b = is_ascii_alphanumeric b || (b == 45 || (b == 46 || (b == 43 || b == 58)))

-- a piece of a text: a run of letters, as long as possible, or another byte
pub data Piece : Type 0 where
  Word : List ℕ → Piece
  Sign : ℕ → Piece

-- the pieces of a text that begins with this letter, where those of the rest are these
abbrev pub onto_word : ℕ → List Piece → List Piece
onto_word b [] = Word (b ∷ []) ∷ []
onto_word b (Sign c ∷ rest) = Word (b ∷ []) ∷ (Sign c ∷ rest)
onto_word b (Word w ∷ rest) = Word (b ∷ w) ∷ rest

-- the pieces of a text
abbrev pub pieces : List ℕ → List Piece
pieces [] = []
pieces (b ∷ text) = if is_letter b then onto_word b (pieces text) else Sign b ∷ pieces text

-- the token of a word: an operator, or a name
abbrev pub word_token : List ℕ → TokenData
word_token w = if bytes_eq w (codes "OR") then Or else if bytes_eq w (codes "AND") then And
    else if bytes_eq w (codes "WITH") then With else Id w

-- the token of a byte that is no letter and no white space; `/` is `OR` too
abbrev pub sign_token : ℕ → TokenData
sign_token b = if b == 40 then Open else if b == 41 then Close else if b == 47 then Or else Other

-- the tokens of a byte that is no letter: none for white space of ASCII
abbrev pub sign_tokens : ℕ → List TokenData
sign_tokens b = if is_ascii_whitespace b then [] else sign_token b ∷ []

-- the tokens of a piece
abbrev pub piece_tokens : Piece → List TokenData
piece_tokens (Word w) = word_token w ∷ []
piece_tokens (Sign b) = sign_tokens b

-- the tokens of a text
abbrev pub tokens : List ℕ → List TokenData
tokens text = flat_map piece_tokens (pieces text)

-- the tokens of a word that may be empty
abbrev pub word_tokens : List ℕ → List TokenData
word_tokens [] = []
word_tokens (b ∷ w) = word_token (b ∷ w) ∷ []
