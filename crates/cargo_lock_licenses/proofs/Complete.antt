-- What the grammar reads is evaluated.
use Rattle.std.proofs.Common.{◌≡◌, ◌≤◌, ◌<◌, ◌∙◌, ◌∷◌, ◌++◌, ◌+◌, ◌&&◌, ◌||◌, [], ℕ, Bool, true, false, List, Some, ap, append-nil, append_assoc, arith, length, lt-ltb, nat_lt, refl, sym}
use Rattle.cargo_lock_licenses.specs.declared.evaluation.Level.{Level}
use Rattle.cargo_lock_licenses.specs.Evaluation.{LastData, Name, Operator, State, Value, at_start, evaluated, is_term, run}
use Rattle.cargo_lock_licenses.specs.Grammar.{Alternatives, Both, Either, Joined, Part, ReadsAs, ReadsAsPart, Single, Term, Tree, both, bracket, either, exception, joined, name, single}
use Rattle.cargo_lock_licenses.specs.Tokens.{And, Close, Id, Open, Or, Other, TokenData, With}

-- whether the expression is true
abbrev pub value : List (List ℕ) → Tree → Bool
value allowed (Term t) = is_term allowed t
value allowed (Both l r) = value allowed l && value allowed r
value allowed (Either l r) = value allowed l || value allowed r

-- a state, by its parts
abbrev at : List Level → Bool → Bool → LastData → State
at around any all last = record { around = around; level = record { any = any; all = all }; last = last }

-- what may follow a single part, and alternatives
abbrev pub NotWith : List TokenData → Type 0
NotWith [] = Unit {0}
NotWith (Open ∷ ts) = Unit {0}
NotWith (Close ∷ ts) = Unit {0}
NotWith (Or ∷ ts) = Unit {0}
NotWith (And ∷ ts) = Unit {0}
NotWith (With ∷ ts) = ⊥
NotWith (Id id ∷ ts) = Unit {0}
NotWith (Other ∷ ts) = Unit {0}

abbrev pub NotAnd : List TokenData → Type 0
NotAnd [] = Unit {0}
NotAnd (Open ∷ ts) = Unit {0}
NotAnd (Close ∷ ts) = Unit {0}
NotAnd (Or ∷ ts) = Unit {0}
NotAnd (And ∷ ts) = ⊥
NotAnd (With ∷ ts) = ⊥
NotAnd (Id id ∷ ts) = Unit {0}
NotAnd (Other ∷ ts) = Unit {0}

pub not-with : (ts : List TokenData) → NotAnd ts → NotWith ts
not-with [] h = tt
not-with (Open ∷ ts) h = tt
not-with (Close ∷ ts) h = tt
not-with (Or ∷ ts) h = tt
not-with (And ∷ ts) h = absurd h
not-with (With ∷ ts) h = absurd h
not-with (Id id ∷ ts) h = tt
not-with (Other ∷ ts) h = tt

-- a name by itself is a term
name-ends : (allowed : List (List ℕ)) (around : List Level) (any all : Bool) (id : List ℕ) (rest : List TokenData) → NotWith rest
    → run allowed (at around any all (Name id)) rest ≡ run allowed (at around any all (Value (is_term allowed id))) rest
name-ends allowed around any all id [] h = refl
name-ends allowed around any all id (Open ∷ ts) h = refl
name-ends allowed around any all id (Close ∷ ts) h = refl
name-ends allowed around any all id (Or ∷ ts) h = refl
name-ends allowed around any all id (And ∷ ts) h = refl
name-ends allowed around any all id (With ∷ ts) h = absurd h
name-ends allowed around any all id (Id other ∷ ts) h = refl
name-ends allowed around any all id (Other ∷ ts) h = refl

-- what is joined is one value
joins : (allowed : List (List ℕ)) (around : List Level) (any all v : Bool) (rest : List TokenData)
    → run allowed (at around any all (Value v)) rest ≡ run allowed (at around any true (Value (all && v))) rest
joins allowed around any all v [] = refl
joins allowed around any all v (Open ∷ ts) = refl
joins allowed around any all v (Close ∷ ts) = refl
joins allowed around any all v (Or ∷ ts) = refl
joins allowed around any all v (And ∷ ts) = refl
joins allowed around any all v (With ∷ ts) = refl
joins allowed around any all v (Id other ∷ ts) = refl
joins allowed around any all v (Other ∷ ts) = refl

-- alternatives are one value, unless `AND` follows
chooses : (allowed : List (List ℕ)) (around : List Level) (any v : Bool) (rest : List TokenData) → NotAnd rest
    → run allowed (at around any true (Value v)) rest ≡ run allowed (at around false true (Value (any || v))) rest
chooses allowed around any v [] h = refl
chooses allowed around any v (Open ∷ ts) h = refl
chooses allowed around any v (Close ∷ ts) h = refl
chooses allowed around any v (Or ∷ ts) h = refl
chooses allowed around any v (And ∷ ts) h = absurd h
chooses allowed around any v (With ∷ ts) h = refl
chooses allowed around any v (Id other ∷ ts) h = refl
chooses allowed around any v (Other ∷ ts) h = refl

-- what may follow a part
abbrev Follows : Part → List TokenData → Type 0
Follows Alternatives rest = NotAnd rest
Follows Joined rest = NotWith rest
Follows Single rest = NotWith rest

-- the state at which a part begins: alternatives begin a bracket, and what is joined begins behind `OR`
abbrev Begins : Part → Bool → Bool → Type 0
Begins Alternatives any all = (any ≡ false) × (all ≡ true)
Begins Joined any all = all ≡ true
Begins Single any all = Unit {0}

opens : (allowed : List (List ℕ)) (around : List Level) (level : Level) (ts : List TokenData) → length around < 100
    → run allowed (record { around = around; level = level; last = Operator }) (Open ∷ ts) ≡ run allowed (record { around = level ∷ around; level = at_start; last = Operator }) ts
opens allowed around level ts room =
    let e : nat_lt (length around) 100 ≡ true = lt-ltb (length around) 100 room in
    rw e refl

-- the value of a part takes its place
pub reads-value : (allowed : List (List ℕ)) (n : ℕ) (part : Part) (ts : List TokenData) (e : Tree) → ReadsAsPart n part ts e
    → (around : List Level) (any all : Bool) (rest : List TokenData) → n + length around ≤ 100 → Begins part any all → Follows part rest
    → run allowed (at around any all Operator) (ts ++ rest) ≡ run allowed (at around any all (Value (value allowed e))) rest
reads-value allowed _ _ _ _ (name n id) around any all rest room begins follows = name-ends allowed around any all id rest follows
reads-value allowed _ _ _ _ (exception n id other) around any all rest room begins follows = refl
reads-value allowed _ _ _ _ (bracket n ts e inner) around any all rest room begins follows =
    let outer : Level = record { any = any; all = all } in
    let fits : n + length (outer ∷ around) ≤ 100 = omega arith in
    let there : length around < 100 = omega arith in
    ap (λ us. run allowed (at around any all Operator) (Open ∷ us)) (append_assoc ts (Close ∷ []) rest)
    ∙ opens allowed around outer (ts ++ Close ∷ rest) there
    ∙ reads-value allowed n Alternatives ts e inner (outer ∷ around) false true (Close ∷ rest) fits (refl, refl) tt
reads-value allowed _ _ _ _ (single n ts e inner) around any all rest room begins follows =
    reads-value allowed n Single ts e inner around any all rest room tt follows
reads-value allowed _ _ _ _ (both n ts us l r left right) around any all rest room begins follows =
    ap (run allowed (at around any all Operator)) (append_assoc ts (And ∷ us) rest)
    ∙ reads-value allowed n Joined ts l left around any all (And ∷ (us ++ rest)) room begins tt
    ∙ ap (λ (a : Bool). run allowed (at around any (a && value allowed l) Operator) (us ++ rest)) begins
    ∙ reads-value allowed n Single us r right around any (value allowed l) rest room tt follows
    ∙ joins allowed around any (value allowed l) (value allowed r) rest
    ∙ ap (λ (a : Bool). run allowed (at around any a (Value (value allowed l && value allowed r))) rest) (sym begins)
reads-value allowed _ _ _ _ (joined n ts e inner) around any all rest room begins follows =
    reads-value allowed n Joined ts e inner around any all rest room begins.1 (not-with rest follows)
reads-value allowed _ _ _ _ (either n ts us l r left right) around any all rest room begins follows =
    ap (run allowed (at around any all Operator)) (append_assoc ts (Or ∷ us) rest)
    ∙ reads-value allowed n Alternatives ts l left around any all (Or ∷ (us ++ rest)) room begins tt
    ∙ ap (λ (a : Bool). run allowed (at around (a || (all && value allowed l)) true Operator) (us ++ rest)) begins.0
    ∙ ap (λ (a : Bool). run allowed (at around (a && value allowed l) true Operator) (us ++ rest)) begins.1
    ∙ reads-value allowed n Joined us r right around (value allowed l) true rest room refl (not-with rest follows)
    ∙ chooses allowed around (value allowed l) (value allowed r) rest follows
    ∙ ap (λ (a : Bool). run allowed (at around a true (Value (value allowed l || value allowed r))) rest) (sym begins.0)
    ∙ ap (λ (a : Bool). run allowed (at around any a (Value (value allowed l || value allowed r))) rest) (sym begins.1)

-- what the grammar reads is evaluated
pub evaluated-value : (allowed : List (List ℕ)) (ts : List TokenData) (e : Tree) → ReadsAs ts e → evaluated allowed ts ≡ Some (value allowed e)
evaluated-value allowed ts e reads =
    ap (evaluated allowed) (sym (append-nil ts))
    ∙ reads-value allowed 100 Alternatives ts e reads [] false true [] (omega arith) (refl, refl) tt
