-- What is read of a text.
use Rattle.std.specs.Prelude.{◌≡◌, ℕ, List, Option, None, Some, map}
use Rattle.cargo_lock_licenses.specs.declared.expression.Expression.{Expression}
use Rattle.cargo_lock_licenses.specs.Grammar.{IsExpression, Tree}
use Rattle.cargo_lock_licenses.specs.Tokens.{TokenData, token_of, tokens}

-- the tokens of an expression of the program
abbrev pub tokens_of : Expression → List TokenData
tokens_of x = map token_of x.tokens.items

-- The text is an expression, and this one has its tokens; or there is no expression that it is.
abbrev pub IsReading : List ℕ → Option Expression → Type 0
IsReading text None = (e : Tree) → ¬ IsExpression text e
IsReading text (Some x) = (tokens_of x ≡ tokens text) × ((e : Tree) × IsExpression text e)
