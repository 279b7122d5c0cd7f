-- The terms of an expression.
use Rattle.std.specs.Prelude.{◌≡◌, ◌++◌, [], ◌∷◌, ℕ, List}
use Rattle.cargo_lock_licenses.specs.Grammar.{Tree, Both, Either, IsExpression, Term, with_exception}
use Rattle.cargo_lock_licenses.specs.Tokens.{TokenData, And, Close, Id, Open, Or, Other, With}
use Rattle.cargo_lock_licenses.specs.Tokens.{tokens}
use Rattle.cargo_lock_licenses.specs.declared.terms.Begun.{Begun}
use Rattle.cargo_lock_licenses.specs.declared.terms.Begun.TheVariants as begun
use Rattle.std.specs.Prelude.{string_bytes}

-- the terms of an expression, from left to right
abbrev pub leaves : Tree → List (List ℕ)
leaves (Term t) = t ∷ []
leaves (Both l r) = leaves l ++ leaves r
leaves (Either l r) = leaves l ++ leaves r

-- what has begun of a term: nothing, a name, or a name and `WITH`
pub data BegunData : Type 0 where
  Nothing : BegunData
  Name : List ℕ → BegunData
  Exempt : List ℕ → BegunData

abbrev pub begun_of : Begun → BegunData
begun_of begun.Nothing = Nothing
begun_of (begun.Name id) = Name (string_bytes id.now)
begun_of (begun.Exempt id) = Exempt (string_bytes id.now)

-- the term that ends where no name and no `WITH` follows
abbrev pub ended : BegunData → List (List ℕ)
ended Nothing = []
ended (Name id) = id ∷ []
ended (Exempt id) = []

-- the term that ends at a name
abbrev pub ended_by_name : List ℕ → BegunData → List (List ℕ)
ended_by_name other Nothing = []
ended_by_name other (Name id) = id ∷ []
ended_by_name other (Exempt id) = with_exception id other ∷ []

-- what has begun after a name, and after `WITH`
abbrev pub after_name : List ℕ → BegunData → BegunData
after_name other Nothing = Name other
after_name other (Name id) = Name other
after_name other (Exempt id) = Nothing

abbrev pub after_with : BegunData → BegunData
after_with Nothing = Nothing
after_with (Name id) = Exempt id
after_with (Exempt id) = Nothing

-- the term that ends at a token, and what has begun after it
abbrev pub ended_at : BegunData → TokenData → List (List ℕ)
ended_at b Open = ended b
ended_at b Close = ended b
ended_at b Or = ended b
ended_at b And = ended b
ended_at b With = []
ended_at b (Id id) = ended_by_name id b
ended_at b Other = ended b

abbrev pub begun_after : BegunData → TokenData → BegunData
begun_after b Open = Nothing
begun_after b Close = Nothing
begun_after b Or = Nothing
begun_after b And = Nothing
begun_after b With = after_with b
begun_after b (Id id) = after_name id b
begun_after b Other = Nothing

-- the terms of tokens behind what has begun: each name, or, where `WITH` and a name follow it, all
-- three
abbrev pub terms_behind : BegunData → List TokenData → List (List ℕ)
terms_behind b [] = ended b
terms_behind b (t ∷ ts) = ended_at b t ++ terms_behind (begun_after b t) ts

-- the terms of a text
abbrev pub terms : List ℕ → List (List ℕ)
terms text = terms_behind Nothing (tokens text)

-- the text is one term to the letter, without operators and brackets
abbrev pub IsTerm : List ℕ → Type 0
IsTerm text = terms text ≡ text ∷ []

-- the terms of an expression are those of its tree
abbrev pub TermsAreLeaves : Type 0
TermsAreLeaves = (text : List ℕ) (e : Tree) → IsExpression text e → terms text ≡ leaves e
