-- No tokens read as two expressions: the tree is computed from them.
use Rattle.std.proofs.Common.{◌≡◌, ◌∙◌, ◌∷◌, ◌++◌, [], ℕ, List, None, Option, Some, ap, append-nil, append_assoc, refl, sym}
use Rattle.std.specs.Prelude.{option_and_then, option_map}
use Rattle.std.proofs.lemmas.Option.{same_Some}
use Rattle.cargo_lock_licenses.specs.Grammar.{Alternatives, Both, Either, Joined, OneReading, Part, ReadsAs, ReadsAsPart, Single, Term, Tree, both, bracket, either, exception, joined, name, single, with_exception}
use Rattle.cargo_lock_licenses.specs.Tokens.{And, Close, Id, Open, Or, Other, TokenData, With}
use Rattle.cargo_lock_licenses.proofs.Complete.{NotAnd, NotWith, not-with}

-- what was read last
data Last : Type 0 where
  Operator : Last
  Name : List ℕ → Last
  Exempt : List ℕ → Last
  Whole : Tree → Last

-- what is before the last `OR` of a bracket, and what is between that and the last `AND`
record Level : Type 0 where
  any : Option Tree
  all : Option Tree

record State : Type 0 where
  around : List Level
  level : Level
  last : Last

abbrev at : List Level → Option Tree → Option Tree → Last → State
at around any all last = record { around = around; level = record { any = any; all = all }; last = last }

abbrev join : Option Tree → Tree → Tree
join None e = e
join (Some l) e = Both l e

abbrev choose : Option Tree → Tree → Tree
choose None e = e
choose (Some l) e = Either l e

abbrev ended_with : Level → Tree → Tree
ended_with level e = choose level.any (join level.all e)

abbrev tree_of : Last → Option Tree
tree_of Operator = None
tree_of (Name id) = Some (Term id)
tree_of (Exempt id) = None
tree_of (Whole e) = Some e

abbrev after_name : List ℕ → Last → Option Last
after_name id Operator = Some (Name id)
after_name id (Name other) = None
after_name id (Exempt other) = Some (Whole (Term (with_exception other id)))
after_name id (Whole e) = None

abbrev after_with : Last → Option Last
after_with Operator = None
after_with (Name id) = Some (Exempt id)
after_with (Exempt id) = None
after_with (Whole e) = None

abbrev with_last : State → Last → State
with_last s l = record { around = s.around; level = s.level; last = l }

abbrev opened : State → Last → Option State
opened s Operator = Some (at (s.level ∷ s.around) None None Operator)
opened s (Name id) = None
opened s (Exempt id) = None
opened s (Whole e) = None

abbrev closed : List Level → Tree → Option State
closed [] e = None
closed (level ∷ around) e = Some (record { around = around; level = level; last = Whole e })

abbrev step : State → TokenData → Option State
step s Open = opened s s.last
step s Close = option_and_then (λ e. closed s.around (ended_with s.level e)) (tree_of s.last)
step s Or = option_map (λ e. at s.around (Some (ended_with s.level e)) None Operator) (tree_of s.last)
step s And = option_map (λ e. at s.around s.level.any (Some (join s.level.all e)) Operator) (tree_of s.last)
step s With = option_map (with_last s) (after_with s.last)
step s (Id id) = option_map (with_last s) (after_name id s.last)
step s Other = None

abbrev ended : List Level → Option Tree → Option Tree
ended [] e = e
ended (outer ∷ around) e = None

abbrev run : State → List TokenData → Option Tree
run s [] = ended s.around (option_map (ended_with s.level) (tree_of s.last))
run s (t ∷ ts) = option_and_then (λ next. run next ts) (step s t)

name-ends : (around : List Level) (any all : Option Tree) (id : List ℕ) (rest : List TokenData) → NotWith rest
    → run (at around any all (Name id)) rest ≡ run (at around any all (Whole (Term id))) rest
name-ends around any all id [] h = refl
name-ends around any all id (Open ∷ ts) h = refl
name-ends around any all id (Close ∷ ts) h = refl
name-ends around any all id (Or ∷ ts) h = refl
name-ends around any all id (And ∷ ts) h = refl
name-ends around any all id (With ∷ ts) h = absurd h
name-ends around any all id (Id other ∷ ts) h = refl
name-ends around any all id (Other ∷ ts) h = refl

joins : (around : List Level) (any all : Option Tree) (e : Tree) (rest : List TokenData)
    → run (at around any all (Whole e)) rest ≡ run (at around any None (Whole (join all e))) rest
joins around any all e [] = refl
joins around any all e (Open ∷ ts) = refl
joins around any all e (Close ∷ ts) = refl
joins around any all e (Or ∷ ts) = refl
joins around any all e (And ∷ ts) = refl
joins around any all e (With ∷ ts) = refl
joins around any all e (Id other ∷ ts) = refl
joins around any all e (Other ∷ ts) = refl

chooses : (around : List Level) (any : Option Tree) (e : Tree) (rest : List TokenData) → NotAnd rest
    → run (at around any None (Whole e)) rest ≡ run (at around None None (Whole (choose any e))) rest
chooses around any e [] h = refl
chooses around any e (Open ∷ ts) h = refl
chooses around any e (Close ∷ ts) h = refl
chooses around any e (Or ∷ ts) h = refl
chooses around any e (And ∷ ts) h = absurd h
chooses around any e (With ∷ ts) h = refl
chooses around any e (Id other ∷ ts) h = refl
chooses around any e (Other ∷ ts) h = refl

abbrev Follows : Part → List TokenData → Type 0
Follows Alternatives rest = NotAnd rest
Follows Joined rest = NotWith rest
Follows Single rest = NotWith rest

abbrev Begins : Part → Option Tree → Option Tree → Type 0
Begins Alternatives any all = (any ≡ None) × (all ≡ None)
Begins Joined any all = all ≡ None
Begins Single any all = Unit {0}

reads-tree : (n : ℕ) (part : Part) (ts : List TokenData) (e : Tree) → ReadsAsPart n part ts e
    → (around : List Level) (any all : Option Tree) (rest : List TokenData) → Begins part any all → Follows part rest
    → run (at around any all Operator) (ts ++ rest) ≡ run (at around any all (Whole e)) rest
reads-tree _ _ _ _ (name n id) around any all rest begins follows = name-ends around any all id rest follows
reads-tree _ _ _ _ (exception n id other) around any all rest begins follows = refl
reads-tree _ _ _ _ (bracket n ts e inner) around any all rest begins follows =
    ap (λ us. run (at around any all Operator) (Open ∷ us)) (append_assoc ts (Close ∷ []) rest)
    ∙ reads-tree n Alternatives ts e inner (record { any = any; all = all } ∷ around) None None (Close ∷ rest) (refl, refl) tt
reads-tree _ _ _ _ (single n ts e inner) around any all rest begins follows =
    reads-tree n Single ts e inner around any all rest tt follows
reads-tree _ _ _ _ (both n ts us l r left right) around any all rest begins follows =
    ap (run (at around any all Operator)) (append_assoc ts (And ∷ us) rest)
    ∙ reads-tree n Joined ts l left around any all (And ∷ (us ++ rest)) begins tt
    ∙ ap (λ (a : Option Tree). run (at around any (Some (join a l)) Operator) (us ++ rest)) begins
    ∙ reads-tree n Single us r right around any (Some l) rest tt follows
    ∙ joins around any (Some l) r rest
    ∙ ap (λ (a : Option Tree). run (at around any a (Whole (Both l r))) rest) (sym begins)
reads-tree _ _ _ _ (joined n ts e inner) around any all rest begins follows =
    reads-tree n Joined ts e inner around any all rest begins.1 (not-with rest follows)
reads-tree _ _ _ _ (either n ts us l r left right) around any all rest begins follows =
    ap (run (at around any all Operator)) (append_assoc ts (Or ∷ us) rest)
    ∙ reads-tree n Alternatives ts l left around any all (Or ∷ (us ++ rest)) begins tt
    ∙ ap (λ (a : Option Tree). run (at around (Some (choose a (join all l))) None Operator) (us ++ rest)) begins.0
    ∙ ap (λ (a : Option Tree). run (at around (Some (join a l)) None Operator) (us ++ rest)) begins.1
    ∙ reads-tree n Joined us r right around (Some l) None rest refl (not-with rest follows)
    ∙ chooses around (Some l) r rest follows
    ∙ ap (λ (a : Option Tree). run (at around a None (Whole (Either l r))) rest) (sym begins.0)
    ∙ ap (λ (a : Option Tree). run (at around any a (Whole (Either l r))) rest) (sym begins.1)

tree-is : (ts : List TokenData) (e : Tree) → ReadsAs ts e → run (at [] None None Operator) ts ≡ Some e
tree-is ts e reads =
    ap (run (at [] None None Operator)) (sym (append-nil ts))
    ∙ reads-tree 100 Alternatives ts e reads [] None None [] (refl, refl) tt

pub one-reading : OneReading
one-reading ts a b ra rb = same_Some a b (sym (tree-is ts a ra) ∙ tree-is ts b rb)
