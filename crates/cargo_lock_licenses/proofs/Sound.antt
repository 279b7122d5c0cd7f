-- What is evaluated is in the grammar.
use Rattle.std.proofs.Common.{◌≡◌, ◌<◌, ◌∙◌, ◌∷◌, ◌++◌, ◌+◌, ◌&&◌, ◌||◌, [], ℕ, zero, suc, Bool, true, false, List, Option, Some, None, ap, append-nil, append_assoc, arith, if◌then◌else◌, length, ltb-true, nat_lt, refl, subst, sym}
use Rattle.std.specs.Prelude.{option_and_then, option_map}
use Rattle.cargo_lock_licenses.specs.declared.evaluation.Level.{Level}
use Rattle.cargo_lock_licenses.specs.Evaluation.{Exempt, LastData, Name, Operator, State, Value, after_name, after_with, and_level, at_level, at_start, closed, ended, ended_with, evaluated, is_term, opened, or_level, run, start, step, value_of, with_last}
use Rattle.cargo_lock_licenses.specs.Grammar.{Alternatives, Both, Either, Joined, Part, ReadsAsPart, Single, Term, Tree, both, bracket, either, exception, joined, name, single, with_exception}
use Rattle.cargo_lock_licenses.specs.Tokens.{And, Close, Id, Open, Or, Other, TokenData, With}
use Rattle.cargo_lock_licenses.proofs.Complete.{value}

-- the tokens read as an expression of this value
abbrev pub Means : List (List ℕ) → ℕ → Part → List TokenData → Bool → Type 0
Means allowed n part ts v = (e : Tree) × ReadsAsPart n part ts e × (value allowed e ≡ v)

-- what is before the last `OR` of a bracket
data AnyPart (allowed : List (List ℕ)) (n : ℕ) : List TokenData → Bool → Type 0 where
  no_any : AnyPart allowed n [] false
  some_any : (ts : List TokenData) (v : Bool) → Means allowed n Alternatives ts v → AnyPart allowed n (ts ++ Or ∷ []) v

-- what is between that and the last `AND`
data AllPart (allowed : List (List ℕ)) (n : ℕ) : List TokenData → Bool → Type 0 where
  no_all : AllPart allowed n [] true
  some_all : (ts : List TokenData) (v : Bool) → Means allowed n Joined ts v → AllPart allowed n (ts ++ And ∷ []) v

record IsLevel (allowed : List (List ℕ)) (n : ℕ) (ts : List TokenData) (level : Level) : Type 0 where
  before : List TokenData
  after : List TokenData
  any : AnyPart allowed n before level.any
  all : AllPart allowed n after level.all
  whole : ts ≡ before ++ after

-- what was read last
data LastPart (allowed : List (List ℕ)) (n : ℕ) : List TokenData → LastData → Type 0 where
  nothing : LastPart allowed n [] Operator
  named : (id : List ℕ) → LastPart allowed n (Id id ∷ []) (Name id)
  exempt : (id : List ℕ) → LastPart allowed n (Id id ∷ With ∷ []) (Exempt id)
  valued : (ts : List TokenData) (v : Bool) → Means allowed n Single ts v → LastPart allowed n ts (Value v)

-- the brackets around, and how many more may be open at once
data Around (allowed : List (List ℕ)) : ℕ → List TokenData → List Level → Type 0 where
  outermost : Around allowed 100 [] []
  inside : (n : ℕ) (ts us : List TokenData) (level : Level) (around : List Level) → Around allowed (suc n) ts around → IsLevel allowed (suc n) us level
      → Around allowed n (ts ++ (us ++ Open ∷ [])) (level ∷ around)

record IsState (allowed : List (List ℕ)) (ts : List TokenData) (s : State) : Type 0 where
  n : ℕ
  outer : List TokenData
  inner : List TokenData
  end : List TokenData
  around : Around allowed n outer s.around
  level : IsLevel allowed n inner s.level
  last : LastPart allowed n end s.last
  whole : ts ≡ outer ++ (inner ++ end)

new-level : (allowed : List (List ℕ)) (n : ℕ) → IsLevel allowed n [] at_start
new-level allowed n = record { before = []; after = []; any = no_any; all = no_all; whole = refl }

joins : (allowed : List (List ℕ)) (n : ℕ) (after end : List TokenData) (all v : Bool) → AllPart allowed n after all → Means allowed n Single end v → Means allowed n Joined (after ++ end) (all && v)
joins allowed n _ end _ v no_all m = (m.0, single n end m.0 m.1, m.2)
joins allowed n _ end _ v (some_all ts all l) m = (
  Both l.0 m.0,
  subst (λ us. ReadsAsPart n Joined us (Both l.0 m.0)) (sym (append_assoc ts (And ∷ []) end)) (both n ts end l.0 m.0 l.1 m.1),
  ap (λ a. a && value allowed m.0) l.2 ∙ ap (λ b. all && b) m.2,
)

chooses : (allowed : List (List ℕ)) (n : ℕ) (before end : List TokenData) (any v : Bool) → AnyPart allowed n before any → Means allowed n Joined end v → Means allowed n Alternatives (before ++ end) (any || v)
chooses allowed n _ end _ v no_any m = (m.0, joined n end m.0 m.1, m.2)
chooses allowed n _ end _ v (some_any ts any l) m = (
  Either l.0 m.0,
  subst (λ us. ReadsAsPart n Alternatives us (Either l.0 m.0)) (sym (append_assoc ts (Or ∷ []) end)) (either n ts end l.0 m.0 l.1 m.1),
  ap (λ a. a || value allowed m.0) l.2 ∙ ap (λ b. any || b) m.2,
)

-- a bracket that ends with this value
ends : (allowed : List (List ℕ)) (n : ℕ) (inner end : List TokenData) (level : Level) (v : Bool) → IsLevel allowed n inner level → Means allowed n Single end v
    → Means allowed n Alternatives (inner ++ end) (ended_with level v)
ends allowed n inner end level v l m =
    subst (λ us. Means allowed n Alternatives us (ended_with level v))
    (sym (append_assoc l.before l.after end) ∙ ap (λ us. us ++ end) (sym l.whole))
    (chooses allowed n l.before (l.after ++ end) level.any (level.all && v) l.any (joins allowed n l.after end level.all v l.all m))

-- the value of what was read last
last-value : (allowed : List (List ℕ)) (n : ℕ) (end : List TokenData) (last : LastData) (v : Bool) → LastPart allowed n end last → value_of allowed last ≡ Some v → Means allowed n Single end v
last-value allowed n _ _ v nothing e = cc
last-value allowed n _ _ v (named id) e = (Term id, name n id, cc)
last-value allowed n _ _ v (exempt id) e = cc
last-value allowed n _ _ v (valued ts w m) e = (m.0, m.1, m.2 ∙ cc)

depth : (allowed : List (List ℕ)) (n : ℕ) (ts : List TokenData) (around : List Level) → Around allowed n ts around → n + length around ≡ 100
depth allowed _ _ _ outermost = refl
depth allowed _ _ _ (inside n ts us level around a l) = let e = depth allowed (suc n) ts around a in omega arith

-- from a value that is there
from-value : {A B : Type 0} (o : Option A) (f : A → Option B) (b : B) → option_and_then f o ≡ Some b → (a : A) × (o ≡ Some a) × (f a ≡ Some b)
from-value None f b e = cc
from-value (Some a) f b e = (a, refl, e)

from-mapped : {A B : Type 0} (o : Option A) (f : A → B) (b : B) → option_map f o ≡ Some b → (a : A) × (o ≡ Some a) × (f a ≡ b)
from-mapped None f b e = cc
from-mapped (Some a) f b e = (a, refl, cc)

after-or : (allowed : List (List ℕ)) (ts : List TokenData) (s : State) (v : Bool) → IsState allowed ts s → value_of allowed s.last ≡ Some v → IsState allowed (ts ++ Or ∷ []) (at_level s (or_level s.level v))
after-or allowed ts s v is e =
    let m = last-value allowed is.n is.end s.last v is.last e in
    record {
      n = is.n;
      outer = is.outer;
      inner = (is.inner ++ is.end) ++ Or ∷ [];
      end = [];
      around = is.around;
      level = record {
        before = (is.inner ++ is.end) ++ Or ∷ [];
        after = [];
        any = some_any (is.inner ++ is.end) (ended_with s.level v) (ends allowed is.n is.inner is.end s.level v is.level m);
        all = no_all;
        whole = sym (append-nil ((is.inner ++ is.end) ++ Or ∷ []));
      };
      last = nothing;
      whole = ap (λ us. us ++ Or ∷ []) is.whole ∙ simp (append_assoc, append-nil);
    }

after-and : (allowed : List (List ℕ)) (ts : List TokenData) (s : State) (v : Bool) → IsState allowed ts s → value_of allowed s.last ≡ Some v → IsState allowed (ts ++ And ∷ []) (at_level s (and_level s.level v))
after-and allowed ts s v is e =
    let m = last-value allowed is.n is.end s.last v is.last e in
    let l = is.level in
    record {
      n = is.n;
      outer = is.outer;
      inner = l.before ++ ((l.after ++ is.end) ++ And ∷ []);
      end = [];
      around = is.around;
      level = record {
        before = l.before;
        after = (l.after ++ is.end) ++ And ∷ [];
        any = l.any;
        all = some_all (l.after ++ is.end) (s.level.all && v) (joins allowed is.n l.after is.end s.level.all v l.all m);
        whole = refl;
      };
      last = nothing;
      whole = ap (λ us. us ++ And ∷ []) (is.whole ∙ ap (λ us. is.outer ++ (us ++ is.end)) l.whole) ∙ simp (append_assoc, append-nil);
    }

close-around : (allowed : List (List ℕ)) (n : ℕ) (outer body ts : List TokenData) (around : List Level) (v : Bool) (next : State)
    → Around allowed n outer around → Means allowed n Alternatives body v → ts ≡ outer ++ body → closed around v ≡ Some next → IsState allowed (ts ++ Close ∷ []) next
close-around allowed _ _ body ts _ v next outermost m whole e = cc
close-around allowed _ _ body ts _ v next (inside n before us level around a l) m whole e =
    let bracketed : List TokenData = Open ∷ (body ++ Close ∷ []) in
    let after : State = record { around = around; level = level; last = Value v } in
    let same : after ≡ next = cc in
    let is : IsState allowed (ts ++ Close ∷ []) after = record {
      n = suc n;
      outer = before;
      inner = us;
      end = bracketed;
      around = a;
      level = l;
      last = valued bracketed v (m.0, bracket n body m.0 m.1, m.2);
      whole = ap (λ xs. xs ++ Close ∷ []) whole ∙ simp append_assoc;
    } in
    subst (IsState allowed (ts ++ Close ∷ [])) same is

after-close : (allowed : List (List ℕ)) (ts : List TokenData) (s : State) (v : Bool) (next : State) → IsState allowed ts s → value_of allowed s.last ≡ Some v → closed s.around (ended_with s.level v) ≡ Some next
    → IsState allowed (ts ++ Close ∷ []) next
after-close allowed ts s v next is e there =
    close-around allowed is.n is.outer (is.inner ++ is.end) ts s.around (ended_with s.level v) next is.around
    (ends allowed is.n is.inner is.end s.level v is.level (last-value allowed is.n is.end s.last v is.last e)) is.whole there

-- one more bracket may be open
inward : (allowed : List (List ℕ)) (n : ℕ) (outer : List TokenData) (around : List Level) → Around allowed n outer around → length around < 100
    → (m : ℕ) × Around allowed (suc m) outer around
inward allowed zero outer around a room = let e = depth allowed zero outer around a in absurd (omega arith)
inward allowed (suc m) outer around a room = (m, a)

-- the state inside a bracket that opens
in-bracket : (allowed : List (List ℕ)) (outer inner ts : List TokenData) (s : State) (m : ℕ) → Around allowed (suc m) outer s.around → IsLevel allowed (suc m) inner s.level → ts ≡ outer ++ inner
    → IsState allowed (ts ++ Open ∷ []) (record { around = s.level ∷ s.around; level = at_start; last = Operator })
in-bracket allowed outer inner ts s m a l whole = record {
  n = m;
  outer = outer ++ (inner ++ Open ∷ []);
  inner = [];
  end = [];
  around = inside m outer inner s.level s.around a l;
  level = new-level allowed m;
  last = nothing;
  whole = ap (λ us. us ++ Open ∷ []) whole ∙ simp (append_assoc, append-nil);
}

level-at : (allowed : List (List ℕ)) (n m : ℕ) (ts : List TokenData) (level : Level) → n ≡ m → IsLevel allowed n ts level → IsLevel allowed m ts level
level-at allowed n m ts level e l = subst (λ k. IsLevel allowed k ts level) e l

after-open-at : (allowed : List (List ℕ)) (ts : List TokenData) (s next : State) (n : ℕ) (outer inner end : List TokenData) (last : LastData) → Around allowed n outer s.around → IsLevel allowed n inner s.level
    → LastPart allowed n end last → ts ≡ outer ++ (inner ++ end) → opened s last ≡ Some next → IsState allowed (ts ++ Open ∷ []) next
after-open-at allowed ts s next n outer inner _ _ a l nothing whole e = by (nat_lt (length s.around) 100) refl
  where
    inside_it : State
    inside_it = record { around = s.level ∷ s.around; level = at_start; last = Operator }

    choice : (b : Bool) → nat_lt (length s.around) 100 ≡ b → (if b then Some inside_it else None) ≡ Some next
    choice b is = subst (λ (x : Bool). (if x then Some inside_it else None) ≡ Some next) is e

    by : (b : Bool) → nat_lt (length s.around) 100 ≡ b → IsState allowed (ts ++ Open ∷ []) next
    by false is = let no : None ≡ Some next = choice false is in cc
    by true is =
        let same : Some inside_it ≡ Some next = choice true is in
        let equal : inside_it ≡ next = cc in
        let room : length s.around < 100 = ltb-true (length s.around) 100 is in
        let (m, a') = inward allowed n outer s.around a room in
        let d = depth allowed n outer s.around a in
        let d' = depth allowed (suc m) outer s.around a' in
        let n-is : n ≡ suc m = omega arith in
        subst (IsState allowed (ts ++ Open ∷ [])) equal
        (in-bracket allowed outer inner ts s m a' (level-at allowed n (suc m) inner s.level n-is l) (whole ∙ ap (λ us. outer ++ us) (append-nil inner)))
after-open-at allowed ts s next n outer inner _ _ a l (named id) whole e = cc
after-open-at allowed ts s next n outer inner _ _ a l (exempt id) whole e = cc
after-open-at allowed ts s next n outer inner _ _ a l (valued us v m) whole e = cc

-- after a name or `WITH`, which goes on with what was read last
goes-on : (allowed : List (List ℕ)) (ts : List TokenData) (s : State) (t : TokenData) (last : LastData) (is : IsState allowed ts s) → LastPart allowed is.n (is.end ++ t ∷ []) last → IsState allowed (ts ++ t ∷ []) (with_last s last)
goes-on allowed ts s t last is l = record {
  n = is.n;
  outer = is.outer;
  inner = is.inner;
  end = is.end ++ t ∷ [];
  around = is.around;
  level = is.level;
  last = l;
  whole = ap (λ us. us ++ t ∷ []) is.whole ∙ simp append_assoc;
}

last-with : (allowed : List (List ℕ)) (n : ℕ) (end : List TokenData) (last next : LastData) → LastPart allowed n end last → after_with last ≡ Some next → LastPart allowed n (end ++ With ∷ []) next
last-with allowed n _ _ next nothing e = cc
last-with allowed n _ _ next (named id) e = let same : Exempt id ≡ next = cc in subst (LastPart allowed n (Id id ∷ With ∷ [])) same (exempt id)
last-with allowed n _ _ next (exempt id) e = cc
last-with allowed n _ _ next (valued us v m) e = cc

last-name : (allowed : List (List ℕ)) (n : ℕ) (end : List TokenData) (id : List ℕ) (last next : LastData) → LastPart allowed n end last → after_name allowed id last ≡ Some next → LastPart allowed n (end ++ Id id ∷ []) next
last-name allowed n _ id _ next nothing e = let same : Name id ≡ next = cc in subst (LastPart allowed n (Id id ∷ [])) same (named id)
last-name allowed n _ id _ next (named other) e = cc
last-name allowed n _ id _ next (exempt other) e =
    let ts : List TokenData = Id other ∷ With ∷ Id id ∷ [] in
    let v : Bool = is_term allowed (with_exception other id) in
    let same : Value v ≡ next = cc in
    subst (LastPart allowed n ts) same (valued ts v (Term (with_exception other id), exception n other id, refl))
last-name allowed n _ id _ next (valued us v m) e = cc

-- a step keeps what the state says
steps : (allowed : List (List ℕ)) (ts : List TokenData) (s : State) (t : TokenData) (next : State) → IsState allowed ts s → step allowed s t ≡ Some next → IsState allowed (ts ++ t ∷ []) next
steps allowed ts s Open next is e = after-open-at allowed ts s next is.n is.outer is.inner is.end s.last is.around is.level is.last is.whole e
steps allowed ts s Close next is e =
    let (v, there, so) = from-value (value_of allowed s.last) (λ v. closed s.around (ended_with s.level v)) next e in
    after-close allowed ts s v next is there so
steps allowed ts s Or next is e =
    let (v, there, so) = from-mapped (value_of allowed s.last) (λ v. at_level s (or_level s.level v)) next e in
    subst (IsState allowed (ts ++ Or ∷ [])) so (after-or allowed ts s v is there)
steps allowed ts s And next is e =
    let (v, there, so) = from-mapped (value_of allowed s.last) (λ v. at_level s (and_level s.level v)) next e in
    subst (IsState allowed (ts ++ And ∷ [])) so (after-and allowed ts s v is there)
steps allowed ts s With next is e =
    let (l, there, so) = from-mapped (after_with s.last) (with_last s) next e in
    subst (IsState allowed (ts ++ With ∷ [])) so (goes-on allowed ts s With l is (last-with allowed is.n is.end s.last l is.last there))
steps allowed ts s (Id id) next is e =
    let (l, there, so) = from-mapped (after_name allowed id s.last) (with_last s) next e in
    subst (IsState allowed (ts ++ Id id ∷ [])) so (goes-on allowed ts s (Id id) l is (last-name allowed is.n is.end id s.last l is.last there))
steps allowed ts s Other next is e = cc

at-end : (allowed : List (List ℕ)) (n : ℕ) (outer body ts : List TokenData) (around : List Level) (o : Option Bool) (v : Bool) → Around allowed n outer around → (o ≡ Some v → Means allowed n Alternatives body v)
    → ts ≡ outer ++ body → ended around o ≡ Some v → Means allowed 100 Alternatives ts v
at-end allowed _ _ body ts _ o v outermost m whole e = subst (λ us. Means allowed 100 Alternatives us v) (sym whole) (m e)
at-end allowed _ _ body ts _ o v (inside n before us level around a l) m whole e = cc

run-means : (allowed : List (List ℕ)) (ts rest : List TokenData) (s : State) (v : Bool) → IsState allowed ts s → run allowed s rest ≡ Some v → Means allowed 100 Alternatives (ts ++ rest) v
run-means allowed ts [] s v is e =
    subst (λ us. Means allowed 100 Alternatives us v) (sym (append-nil ts))
    (at-end allowed is.n is.outer (is.inner ++ is.end) ts s.around _ v is.around there is.whole e)
  where
    there : option_map (ended_with s.level) (value_of allowed s.last) ≡ Some v → Means allowed is.n Alternatives (is.inner ++ is.end) v
    there so =
        let (w, value-is, same) = from-mapped (value_of allowed s.last) (ended_with s.level) v so in
        subst (Means allowed is.n Alternatives (is.inner ++ is.end)) same
        (ends allowed is.n is.inner is.end s.level w is.level (last-value allowed is.n is.end s.last w is.last value-is))
run-means allowed ts (t ∷ rest) s v is e =
    let (next, stepped, so) = from-value (step allowed s t) (λ next. run allowed next rest) v e in
    subst (λ us. Means allowed 100 Alternatives us v) (append_assoc ts (t ∷ []) rest)
    (run-means allowed (ts ++ t ∷ []) rest next v (steps allowed ts s t next is stepped) so)

-- what is evaluated is an expression of that value
pub evaluated-means : (allowed : List (List ℕ)) (ts : List TokenData) (v : Bool) → evaluated allowed ts ≡ Some v → Means allowed 100 Alternatives ts v
evaluated-means allowed ts v e = run-means allowed [] ts start v is e
  where
    is : IsState allowed [] start
    is = record { n = 100; outer = []; inner = []; end = []; around = outermost; level = new-level allowed 100; last = nothing; whole = refl }
