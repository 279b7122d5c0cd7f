-- The two ways to say what a drawing is are one.
use Rattle.std.proofs.Common.{◌≡◌, ℕ, suc, ◌<◌, ◌≤◌, Bool, true, false, ◌||◌, cond, eqb, List, [], ◌∷◌, ◌++◌, refl, sym, ap, subst, ◌∙◌}
use Rattle.cargo_lock_graph.specs.declared.drawing.entry.Entry.{Entry}
use Rattle.cargo_lock_graph.specs.Drawing.{is_one_of, children, nodes_of, IsDrawing}
use Rattle.cargo_lock_graph.specs.DrawingSteps.{AreSteps, children_after, HaveChildren, DrawsFrom}

-- nodes before, in the order in which a walk over the list adds them
abbrev onto : List Entry → List ℕ → List ℕ
onto [] earlier = earlier
onto (e ∷ front) earlier = onto front (e.node ∷ earlier)

or_swap : (a b c : Bool) → (a || (b || c)) ≡ ((b || a) || c)
or_swap true true c = refl
or_swap true false c = refl
or_swap false true c = refl
or_swap false false c = refl

or_none : (a : Bool) → (a || false) ≡ a
or_none true = refl
or_none false = refl

among_onto : (k : ℕ) (front : List Entry) (earlier : List ℕ) → is_one_of k (onto front earlier) ≡ (is_one_of k (nodes_of front) || is_one_of k earlier)
among_onto k [] earlier = refl
among_onto k (e ∷ front) earlier = among_onto k front (e.node ∷ earlier) ∙ or_swap (is_one_of k (nodes_of front)) (eqb k e.node) (is_one_of k earlier)

have_at : (far : ℕ → List ℕ) (front : List Entry) (es : List Entry) (earlier : List ℕ) (e : Entry) (later : List Entry) → HaveChildren far earlier es → es ≡ front ++ e ∷ later → children e.depth later ≡ children_after far (onto front earlier) e.node
have_at far [] [] earlier e later have is = absurd cc
have_at far [] (x ∷ es) earlier e later have is =
    let same : x ≡ e = cc is in let rest : es ≡ later = cc is in
    ap (λ (l : List Entry). children e.depth l) (sym rest) ∙ subst (λ (y : Entry). children y.depth es ≡ children_after far earlier y.node) same have.0
have_at far (y ∷ front) [] earlier e later have is = absurd cc
have_at far (y ∷ front) (x ∷ es) earlier e later have is =
    let same : x ≡ y = cc is in let rest : es ≡ front ++ e ∷ later = cc is in
    have_at far front es (y.node ∷ earlier) e later (subst (λ (z : Entry). HaveChildren far (z.node ∷ earlier) es) same have.1) rest

have_from : (far : ℕ → List ℕ) (es : List Entry) (earlier : List ℕ) → ((front later : List Entry) (e : Entry) → es ≡ front ++ e ∷ later → children e.depth later ≡ children_after far (onto front earlier) e.node) → HaveChildren far earlier es
have_from far [] earlier h = tt
have_from far (e ∷ es) earlier h = (h [] es e refl, have_from far es (e.node ∷ earlier) (λ front later f is. h (e ∷ front) later f (ap (λ (l : List Entry). e ∷ l) is)))

steps_at : (front : List Entry) (x : Entry) (es : List Entry) (a b : Entry) (later : List Entry) → AreSteps x.depth es → x ∷ es ≡ front ++ a ∷ b ∷ later → (0 < b.depth) × (b.depth ≤ suc a.depth)
steps_at [] x [] a b later h is = let rest : [] ≡ b ∷ later = cc is in absurd cc
steps_at [] x (y ∷ es) a b later h is =
    let one : x ≡ a = cc is in let two : y ≡ b = cc is in
    (subst (λ (z : Entry). 0 < z.depth) two h.0, subst (λ (z : Entry). z.depth ≤ suc a.depth) two (subst (λ (z : Entry). y.depth ≤ suc z.depth) one h.1))
steps_at (y ∷ []) x [] a b later h is = let rest : [] ≡ a ∷ b ∷ later = cc is in absurd cc
steps_at (y ∷ z ∷ front) x [] a b later h is = let rest : [] ≡ z ∷ (front ++ a ∷ b ∷ later) = cc is in absurd cc
steps_at (y ∷ front) x (w ∷ es) a b later h is = steps_at front w es a b later h.2 (let rest : w ∷ es ≡ front ++ a ∷ b ∷ later = cc is in rest)

steps_from : (x : Entry) (es : List Entry) → ((front later : List Entry) (a b : Entry) → x ∷ es ≡ front ++ a ∷ b ∷ later → (0 < b.depth) × (b.depth ≤ suc a.depth)) → AreSteps x.depth es
steps_from x [] h = tt
steps_from x (y ∷ es) h =
    let one = h [] es x y refl in
    (one.0, one.1, steps_from y es (λ front later a b is. h (x ∷ front) later a b (ap (λ (l : List Entry). x ∷ l) is)))

none_before : (far : ℕ → List ℕ) (front : List Entry) (n : ℕ) → children_after far (onto front []) n ≡ cond (is_one_of n (nodes_of front)) [] (far n)
none_before far front n = ap (λ (b : Bool). cond b [] (far n)) (among_onto n front [] ∙ or_none (is_one_of n (nodes_of front)))

pub in_words : (far : ℕ → List ℕ) (start : ℕ) (es : List Entry) → DrawsFrom far start es → IsDrawing far start es
in_words far start [] d = absurd d
in_words far start (x ∷ es) d =
    let root : x ≡ record { node = start; depth = 0 } = λ i. record { node = d.0 i; depth = d.1 i } in
    record {
      first = (es, ap (λ (y : Entry). y ∷ es) root);
      steps = λ front later a b is. steps_at front x es a b later (subst (λ (n : ℕ). AreSteps n es) (sym d.1) d.2) is;
      expanded = λ front later e is new. have_at far front (x ∷ es) [] e later d.3 is ∙ none_before far front e.node ∙ ap (λ (b : Bool). cond b [] (far e.node)) new;
      again = λ front later e is old. have_at far front (x ∷ es) [] e later d.3 is ∙ none_before far front e.node ∙ ap (λ (b : Bool). cond b [] (far e.node)) old;
    }

by_case : (far : ℕ → List ℕ) (b : Bool) (n : ℕ) (kids : List ℕ) → (b ≡ false → kids ≡ far n) → (b ≡ true → kids ≡ []) → kids ≡ cond b [] (far n)
by_case far true n kids new old = old refl
by_case far false n kids new old = new refl

pub from_words : (far : ℕ → List ℕ) (start : ℕ) (es : List Entry) → IsDrawing far start es → DrawsFrom far start es
from_words far start [] w = let e = w.first.1 in absurd cc
from_words far start (x ∷ es) w =
    let root : x ≡ record { node = start; depth = 0 } = cc (w.first.1) in
    let depth : x.depth ≡ 0 = ap (λ (y : Entry). y.depth) root in (
      ap (λ (y : Entry). y.node) root,
      depth,
      subst (λ (n : ℕ). AreSteps n es) depth (steps_from x es w.steps),
      have_from far (x ∷ es) [] (λ front later e is. by_case far (is_one_of e.node (nodes_of front)) e.node (children e.depth later) (w.expanded front later e is) (w.again front later e is) ∙ sym (none_before far front e.node)),
    )
