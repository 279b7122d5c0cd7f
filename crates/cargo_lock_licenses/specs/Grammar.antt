-- The grammar of licence expressions.
use Rattle.std.specs.Prelude.{◌≡◌, [], ◌∷◌, ◌++◌, ℕ, suc, List, codes}
use Rattle.cargo_lock_licenses.specs.Tokens.{TokenData, And, Close, Id, Open, Or, With, tokens}

-- an expression: a term, which is a name or `NAME WITH NAME`, two expressions of which both hold,
-- or two of which one holds
pub data Tree : Type 0 where
  Term : List ℕ → Tree
  Both : Tree → Tree → Tree
  Either : Tree → Tree → Tree

-- a term with an exception
abbrev pub with_exception : List ℕ → List ℕ → List ℕ
with_exception id exception = id ++ (codes " WITH " ++ exception)

-- a part of an expression: alternatives, what is joined by `AND`, or a term or a bracket
pub data Part : Type 0 where
  Alternatives : Part
  Joined : Part
  Single : Part

-- The tokens read as the expression, in which at most n brackets are in one another:
--   alternatives := joined {"OR" joined}
--   joined := single {"AND" single}
--   single := NAME | NAME "WITH" NAME | "(" alternatives ")"
pub data ReadsAsPart : ℕ → Part → List TokenData → Tree → Type 0 where
  name : (n : ℕ) (id : List ℕ) → ReadsAsPart n Single (Id id ∷ []) (Term id)
  exception : (n : ℕ) (id other : List ℕ)
      → ReadsAsPart n Single (Id id ∷ With ∷ Id other ∷ []) (Term (with_exception id other))
  bracket : (n : ℕ) (ts : List TokenData) (e : Tree) → ReadsAsPart n Alternatives ts e
      → ReadsAsPart (suc n) Single (Open ∷ (ts ++ Close ∷ [])) e
  single : (n : ℕ) (ts : List TokenData) (e : Tree) → ReadsAsPart n Single ts e
      → ReadsAsPart n Joined ts e
  both : (n : ℕ) (ts us : List TokenData) (l r : Tree) → ReadsAsPart n Joined ts l
      → ReadsAsPart n Single us r → ReadsAsPart n Joined (ts ++ And ∷ us) (Both l r)
  joined : (n : ℕ) (ts : List TokenData) (e : Tree) → ReadsAsPart n Joined ts e
      → ReadsAsPart n Alternatives ts e
  either : (n : ℕ) (ts us : List TokenData) (l r : Tree) → ReadsAsPart n Alternatives ts l
      → ReadsAsPart n Joined us r → ReadsAsPart n Alternatives (ts ++ Or ∷ us) (Either l r)

-- the tokens read as the expression
abbrev pub ReadsAs : List TokenData → Tree → Type 0
ReadsAs = ReadsAsPart 100 Alternatives

-- the text is the expression
abbrev pub IsExpression : List ℕ → Tree → Type 0
IsExpression text = ReadsAs (tokens text)

-- no text is two expressions
abbrev pub OneReading : Type 0
OneReading = (ts : List TokenData) (a b : Tree) → ReadsAs ts a → ReadsAs ts b → a ≡ b
