-- How an expression is printed.
use Rattle.std.specs.Prelude.{◌≡◌, [], ℕ, List, codes}
use Rattle.std.specs.List.{flat_map}
use Rattle.cargo_lock_licenses.specs.Grammar.{IsExpression, Tree}
use Rattle.cargo_lock_licenses.specs.Tokens.{TokenData, And, Close, Id, Open, Or, Other, With}
use Rattle.cargo_lock_licenses.specs.Tokens.{tokens}

-- a token with the spaces around it
abbrev pub token_text : TokenData → List ℕ
token_text Open = codes "("
token_text Close = codes ")"
token_text Or = codes " OR "
token_text And = codes " AND "
token_text With = codes " WITH "
token_text (Id id) = id
token_text Other = []

-- an expression as it is printed
abbrev pub printed : List TokenData → List ℕ
printed = flat_map token_text

-- an expression that is printed and read is the same one
abbrev pub PrintedReadsAgain : Type 0
PrintedReadsAgain = (text : List ℕ) (e : Tree) → IsExpression text e
    → tokens (printed (tokens text)) ≡ tokens text
