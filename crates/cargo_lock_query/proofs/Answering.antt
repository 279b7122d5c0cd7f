-- The answers about nodes, one after another.
use Rattle.std.proofs.Common.{◌≡◌, ◌∙◌, ◌<◌, ◌+◌, ◌++◌, ◌∷◌, [], Err, Global, Ok, Result, Vec, ℕ, Bool, List, append-nil, append_assoc, ap, arith, get_or, length, map, refl, subst, sym, take}
use Rattle.std.specs.Prelude.{OnOk}
use Rattle.std.specs.List.{AllZip}
use Rattle.std.proofs.lemmas.List.{map_push, take_more}
use Rattle.cargo_lock_parts.specs.Identity.{PackageData}
use Rattle.cargo_lock_graph.specs.Edges.{GraphData}
use Rattle.cargo_lock_graph.proofs.Zipped.{zip-push}
use Rattle.cargo_lock_query.specs.Answers.{AreAnswers, AreAnswersAbout, answers_by, needed_by}
use Rattle.cargo_lock_query.specs.Lines.{AnswerData, Nothing}

-- ---- the answers about some nodes

-- one node more
answers-last : (is_each : Bool) (graph : GraphData) (nodes : List ℕ) (to : ℕ) (before own : List AnswerData) → AreAnswers is_each graph nodes before
    → AreAnswersAbout is_each graph to own → AreAnswers is_each graph (nodes ++ to ∷ []) (before ++ own)
answers-last is_each graph [] to before own are more =
    (own, [], more, refl, ap (λ (said : List AnswerData). said ++ own) are ∙ sym (append-nil own))
answers-last is_each graph (node ∷ nodes) to before own are more =
    let (first, rest, about, others, is) = are in
    (first, rest ++ own, about, answers-last is_each graph nodes to rest own others more, ap (λ (said : List AnswerData). said ++ own) is ∙ append_assoc first rest own)

pub answers-next : (is_each : Bool) (graph : GraphData) (nodes : List ℕ) (i to : ℕ) (before own after : List AnswerData) → i < length nodes → to ≡ get_or nodes i to
    → AreAnswers is_each graph (take i nodes) before → AreAnswersAbout is_each graph to own → after ≡ before ++ own → AreAnswers is_each graph (take (i + 1) nodes) after
answers-next is_each graph nodes i to before own after low at are more is =
    let next : take (i + 1) nodes ≡ take i nodes ++ to ∷ [] = take_more nodes i to low ∙ ap (λ (n : ℕ). take i nodes ++ n ∷ []) (sym at) in
    subst (λ (ns : List ℕ). AreAnswers is_each graph ns after) (sym next)
    (subst (AreAnswers is_each graph (take i nodes ++ to ∷ [])) (sym is) (answers-last is_each graph (take i nodes) to before own are more))

-- ---- the answers by chains

-- an answer for each chain
each-needed : (packages : List PackageData) (p : PackageData) (vs : List (Vec ℕ Global))
    → map (λ (v : Vec ℕ Global). needed_by packages p v.items) vs ≡ map (needed_by packages p) (map (λ (v : Vec ℕ Global). v.items) vs)
each-needed packages p [] = refl
each-needed packages p (v ∷ vs) = ap (λ (said : List AnswerData). needed_by packages p v.items ∷ said) (each-needed packages p vs)

-- if there is no chain, nothing leads to the package
pub nothing-said : (packages : List PackageData) (p : PackageData) (vs : List (Vec ℕ Global)) (before now after : List AnswerData) → length vs ≡ 0
    → now ≡ before ++ Nothing p ∷ [] → after ≡ now ++ map (λ (v : Vec ℕ Global). needed_by packages p v.items) vs
    → after ≡ before ++ answers_by packages p (map (λ (v : Vec ℕ Global). v.items) vs)
nothing-said packages p [] before now after none said more = more ∙ append-nil now ∙ said
nothing-said packages p (v ∷ vs) before now after none said more = absurd (omega (arith, none))

-- if there is one, each is an answer
pub each-said : (packages : List PackageData) (p : PackageData) (vs : List (Vec ℕ Global)) (before now after : List AnswerData) → 0 < length vs
    → now ≡ before → after ≡ now ++ map (λ (v : Vec ℕ Global). needed_by packages p v.items) vs
    → after ≡ before ++ answers_by packages p (map (λ (v : Vec ℕ Global). v.items) vs)
each-said packages p [] before now after some said more = absurd (omega (arith, some))
each-said packages p (v ∷ vs) before now after some said more =
    more ∙ ap (λ (front : List AnswerData). front ++ map (λ (u : Vec ℕ Global). needed_by packages p u.items) (v ∷ vs)) said
    ∙ ap (λ (back : List AnswerData). before ++ back) (each-needed packages p (v ∷ vs))

-- ---- results, and lists side by side

-- what holds at Ok in place of another fact
pub on-ok : {E : Type 0} (r : Result (Unit {0}) E) (P Q : Type 0) → (P → Q) → OnOk r P → OnOk r Q
on-ok (Ok u) P Q f h = f h
on-ok (Err e) P Q f h = tt

-- one element more of two lists, each seen by its own view
pub zip-next : {X Y A B : Type 0} (R : A → B → Type 0) (f : X → A) (g : Y → B) (xs : List X) (i : ℕ) (x : X) (ys more : List Y) (y : Y) → i < length xs → x ≡ get_or xs i x
    → AllZip R (map f (take i xs)) (map g ys) → R (f x) (g y) → more ≡ ys ++ y ∷ [] → AllZip R (map f (take (i + 1) xs)) (map g more)
zip-next {X} {Y} {A} {B} R f g xs i x ys more y low at are r is =
    let next : take (i + 1) xs ≡ take i xs ++ x ∷ [] = take_more xs i x low ∙ ap (λ (z : X). take i xs ++ z ∷ []) (sym at) in
    let left : map f (take (i + 1) xs) ≡ map f (take i xs) ++ f x ∷ [] = ap (map f) next ∙ map_push f (take i xs) x in
    let right : map g more ≡ map g ys ++ g y ∷ [] = ap (map g) is ∙ map_push g ys y in
    subst (λ (bs : List B). AllZip R (map f (take (i + 1) xs)) bs) (sym right)
    (subst (λ (front : List A). AllZip R front (map g ys ++ g y ∷ [])) (sym left) (zip-push R (map f (take i xs)) (map g ys) (f x) (g y) are r))
