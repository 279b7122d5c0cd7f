-- When an expression is allowed.
use Rattle.std.specs.Prelude.{[], ◌∷◌, ◌++◌, ℕ, List, All, map}
use Rattle.std.specs.List.{Contains, flat_map}
use Rattle.cargo_lock_licenses.specs.Grammar.{Tree, Both, Either, Term}

-- the disjunctive form of an expression: the alternatives, each as its terms, of which all hold
abbrev pub alternatives : Tree → List (List (List ℕ))
alternatives (Term t) = (t ∷ []) ∷ []
alternatives (Either l r) = alternatives l ++ alternatives r
alternatives (Both l r) = flat_map (λ a. map (λ b. a ++ b) (alternatives r)) (alternatives l)

-- each term of some alternative is allowed
abbrev pub IsAllowed : List (List ℕ) → Tree → Type 0
IsAllowed allowed e = (a : List (List ℕ)) × Contains (alternatives e) a × All (Contains allowed) a

-- more allowed terms forbid no expression
abbrev pub MoreAllowMore : Type 0
MoreAllowMore = (some more : List (List ℕ)) (e : Tree) → All (Contains more) some
    → IsAllowed some e → IsAllowed more e
