-- There is a drawing, and only one.
use Rattle.std.proofs.Common.{◌≡◌, ℕ, zero, suc, ◌<◌, Bool, true, false, List, [], ◌∷◌, ◌++◌, length, get_or, set, replicate, refl, sym, ap, subst, ◌∙◌, arith, inl, inr}
use Rattle.std.specs.List.{AllByRecursion}
use Rattle.std.proofs.lemmas.Bool.{cases_eq, cases_Bool, eq-eqb, ne_eqb}
use Rattle.std.proofs.lemmas.List.{append-nil, length-set, length-replicate, get_or-set_same, get_or-set_other, get_or-replicate}
use Rattle.std.proofs.lemmas.List.Elements.{recursion_from_All}
use Rattle.cargo_lock_graph.specs.Drawing.{is_one_of, children, AreBelow}
use Rattle.cargo_lock_graph.specs.DrawingSteps.{children_after, HaveChildren, DrawsFrom}
use Rattle.cargo_lock_graph.specs.declared.drawing.entry.Entry.{Entry}
use Rattle.cargo_lock_graph.specs.DrawingMade.{AreMarked, entries_below, unmarked_count, draw, rest_of, drawing}
use Rattle.cargo_lock_graph.proofs.DrawingRest.{at_level, Falls, Rest, same_entry, deep, entries_below-falls, level-same, level-other, back, falls_on, one_rest}

-- ---- how many are left

pub unmarked_count-set : (marks : List Bool) (m : ℕ) → get_or marks m true ≡ false → unmarked_count marks ≡ suc (unmarked_count (set marks m true))
unmarked_count-set [] m h = absurd cc
unmarked_count-set (b ∷ bs) zero h = rw h (omega arith)
unmarked_count-set (b ∷ bs) (suc m) h = omega (arith, unmarked_count-set bs m h)

-- ---- one entry on

draw-seen_again : (far : ℕ → List ℕ) (fuel : ℕ) (marks : List Bool) (e : Entry) (p : List Entry) → get_or marks e.node true ≡ true → draw far fuel marks (e ∷ p) ≡ e ∷ draw far fuel marks p
draw-seen_again far zero marks e p h = rw h refl
draw-seen_again far (suc fuel) marks e p h = rw h refl

pub rest-seen : (far : ℕ → List ℕ) (marks : List Bool) (e : Entry) (p : List Entry) → get_or marks e.node true ≡ true → rest_of far marks (e ∷ p) ≡ e ∷ rest_of far marks p
unfolding rest_of
rest-seen far marks e p h = draw-seen_again far (unmarked_count marks) marks e p h

pub rest-new : (far : ℕ → List ℕ) (marks : List Bool) (e : Entry) (p : List Entry) → get_or marks e.node true ≡ false → rest_of far marks (e ∷ p) ≡ e ∷ rest_of far (set marks e.node true) (entries_below (suc e.depth) (far e.node) ++ p)
unfolding rest_of
rest-new far marks e p h = rw (unmarked_count-set marks e.node h, h) refl

pub rest-end : (far : ℕ → List ℕ) (marks : List Bool) → rest_of far marks [] ≡ []
unfolding rest_of
rest-end far marks = elim (unmarked_count marks) as (λ n. draw far n marks [] ≡ []) [ zero ↦ refl | suc n ↦ refl ]

pub marked-more : (marks : List Bool) (earlier : List ℕ) (m : ℕ) → AreMarked marks earlier → AreMarked (set marks m true) (m ∷ earlier)
marked-more marks earlier m h k lt =
    let in_range : k < length marks = subst (λ (n : ℕ). k < n) (length-set marks m true) lt in
    elim (cases_eq k m) [
      | inl same ↦ rw (eq-eqb k m same) (subst (λ (j : ℕ). get_or (set marks m true) j true ≡ true) (sym same) (get_or-set_same marks m true true (omega arith)))
      | inr other ↦ rw (ne_eqb k m other) (get_or-set_other marks m k true true other ∙ h k in_range)
    ]

-- one more entry of a node that has a mark
pub marked-again : (marks : List Bool) (earlier : List ℕ) (m : ℕ) → m < length marks → get_or marks m true ≡ true → AreMarked marks earlier → AreMarked marks (m ∷ earlier)
marked-again marks earlier m m_in t h k lt =
    elim (cases_eq k m) [
      | inl same ↦ rw (eq-eqb k m same) (ap (λ (j : ℕ). get_or marks j true) same ∙ t)
      | inr other ↦ rw (ne_eqb k m other) (h k lt)
    ]

-- ---- it is a drawing

abbrev pub Below : ℕ → List Entry → Type 0
Below nodes p = AllByRecursion (λ (e : Entry). e.node < nodes) p

below-append : (nodes : ℕ) (p q : List Entry) → Below nodes p → Below nodes q → Below nodes (p ++ q)
below-append nodes [] q h k = k
below-append nodes (e ∷ p) q h k = (h.0, below-append nodes p q h.1 k)

below-entries_below : (nodes d : ℕ) (ns : List ℕ) → AllByRecursion (λ j. j < nodes) ns → Below nodes (entries_below d ns)
below-entries_below nodes d [] h = tt
below-entries_below nodes d (n ∷ ns) h = (h.0, below-entries_below nodes d ns h.1)

below-children_after : (far : ℕ → List ℕ) (nodes : ℕ) (earlier : List ℕ) (n d : ℕ) → AreBelow far nodes → Below nodes (entries_below d (children_after far earlier n))
below-children_after far nodes earlier n d h =
    elim (cases_Bool (is_one_of n earlier)) [
      | inl t ↦ rw t tt
      | inr f ↦ rw f (below-entries_below nodes d (far n) (recursion_from_All (λ j. j < nodes) (far n) (h n)))
    ]

pub below_on : (far : ℕ → List ℕ) (nodes : ℕ) (earlier : List ℕ) (e : Entry) (p : List Entry) → AreBelow far nodes → Below nodes (e ∷ p) → Below nodes (entries_below (suc e.depth) (children_after far earlier e.node) ++ p)
below_on far nodes earlier e p far_below h = below-append nodes (entries_below (suc e.depth) (children_after far earlier e.node)) p (below-children_after far nodes earlier e.node (suc e.depth) far_below) h.1

pub record Step (far : ℕ → List ℕ) (marks : List Bool) (earlier : List ℕ) (e : Entry) (p : List Entry) : Type 0 where
  pub marks' : List Bool
  pub long : length marks' ≡ length marks
  pub agree : AreMarked marks' (e.node ∷ earlier)
  pub is : rest_of far marks (e ∷ p) ≡ e ∷ rest_of far marks' (entries_below (suc e.depth) (children_after far earlier e.node) ++ p)

pub rest-step : (far : ℕ → List ℕ) (marks : List Bool) (earlier : List ℕ) (e : Entry) (p : List Entry) → AreMarked marks earlier → e.node < length marks → Step far marks earlier e p
rest-step far marks earlier e p h lt =
    elim (cases_Bool (get_or marks e.node true)) [
      | inl t ↦ (let among : is_one_of e.node earlier ≡ true = sym (h e.node lt) ∙ t in
          record { marks' = marks; long = refl; agree = marked-again marks earlier e.node lt t h; is = rest-seen far marks e p t ∙ rw among refl })
      | inr f ↦ (let among : is_one_of e.node earlier ≡ false = sym (h e.node lt) ∙ f in
          record { marks' = set marks e.node true; long = length-set marks e.node true; agree = marked-more marks earlier e.node h; is = rest-new far marks e p f ∙ rw among refl })
    ]

made_rest : (far : ℕ → List ℕ) (nodes : ℕ) → AreBelow far nodes → (es : List Entry) (marks : List Bool) (earlier : List ℕ) (before : ℕ) (p : List Entry) → length marks ≡ nodes → AreMarked marks earlier → Falls (suc before) p → Below nodes p → rest_of far marks p ≡ es → Rest far earlier before p es
made_rest far nodes far_below [] marks earlier before [] long agree falls below made = record { steps = tt; waits = λ d. refl; have = tt }
made_rest far nodes far_below [] marks earlier before (e ∷ p) long agree falls below made =
    let s = rest-step far marks earlier e p agree (subst (λ (n : ℕ). e.node < n) (sym long) below.0) in
    let w = sym s.is ∙ made in absurd cc
made_rest far nodes far_below (x ∷ es) marks earlier before [] long agree falls below made =
    let w = sym (rest-end far marks) ∙ made in absurd cc
made_rest far nodes far_below (x ∷ es) marks earlier before (e ∷ p) long agree falls below made =
    let s = rest-step far marks earlier e p agree (subst (λ (n : ℕ). e.node < n) (sym long) below.0) in
    let w = sym s.is ∙ made in
    let same : e ≡ x = cc w in
    let tail : rest_of far s.marks' (entries_below (suc e.depth) (children_after far earlier e.node) ++ p) ≡ es = cc w in
    let rest = made_rest far nodes far_below es s.marks' (e.node ∷ earlier) e.depth _ (s.long ∙ long) s.agree (falls_on (suc before) e p (children_after far earlier e.node) falls) (below_on far nodes earlier e p far_below below) tail in
    subst (λ (y : Entry). Rest far earlier before (e ∷ p) (y ∷ es)) same (back far earlier before (suc before) e p es falls falls.1 rest)

-- ---- the start

pub first_falls : (ns : List ℕ) → Falls 1 (entries_below 1 ns)
first_falls ns = subst (λ (p : List Entry). Falls 1 p) (append-nil (entries_below 1 ns)) (entries_below-falls 0 ns [] tt)

-- after the first entry, the drawing is the rest
pub drawing_rest : (far : ℕ → List ℕ) (e : Entry) (es : List Entry) (start : ℕ) → DrawsFrom far start (e ∷ es) → Rest far (start ∷ []) 0 (entries_below 1 (far start)) es
drawing_rest far e es start d = record {
  steps = d.2;
  waits = λ k. elim (cases_eq k 0) [
    | inl zero_ ↦ ap (λ (n : ℕ). children n es) (zero_ ∙ sym d.1) ∙ d.3.0 ∙ ap far d.0 ∙ sym (level-same 1 (far start)) ∙ ap (λ (n : ℕ). at_level (suc n) (entries_below 1 (far start))) (sym zero_)
    | inr more ↦ deep k 0 es d.2 (omega arith) ∙ sym (level-other (suc k) 1 (far start) (λ x. omega arith))
  ];
  have = subst (λ (n : ℕ). HaveChildren far (n ∷ []) es) d.0 d.3.1;
}

pub rest_drawing : (far : ℕ → List ℕ) (es : List Entry) (start : ℕ) → Rest far (start ∷ []) 0 (entries_below 1 (far start)) es → DrawsFrom far start (record { node = start; depth = 0 } ∷ es)
rest_drawing far es start r = (refl, refl, r.steps, (r.waits 0 ∙ level-same 1 (far start), r.have))

pub is_drawing : (far : ℕ → List ℕ) (nodes start : ℕ) → AreBelow far nodes → start < nodes → DrawsFrom far start (drawing far nodes start)
is_drawing far nodes start far_below lt =
    let root : Entry = record { node = start; depth = 0 } in
    let none : List Bool = replicate nodes false in
    let agree : AreMarked none [] = λ k k_in. get_or-replicate nodes k false true (subst (λ (n : ℕ). k < n) (length-replicate nodes false) k_in) in
    let long : length none ≡ nodes = length-replicate nodes false in
    let s = rest-step far none [] root [] agree (subst (λ (n : ℕ). start < n) (sym long) lt) in
    let kids : List Entry = entries_below 1 (far start) in
    let below = below-entries_below nodes 1 (far start) (recursion_from_All (λ j. j < nodes) (far start) (far_below start)) in
    let rest = made_rest far nodes far_below _ s.marks' (start ∷ []) 0 kids (s.long ∙ long) s.agree (first_falls (far start)) below refl in
    let is : drawing far nodes start ≡ root ∷ rest_of far s.marks' kids = s.is ∙ ap (λ (p : List Entry). root ∷ rest_of far s.marks' p) (append-nil kids) in
    subst (DrawsFrom far start) (sym is) (rest_drawing far _ start rest)

pub one_drawing_only : (far : ℕ → List ℕ) (start : ℕ) (es fs : List Entry) → DrawsFrom far start es → DrawsFrom far start fs → es ≡ fs
one_drawing_only far start [] fs d q = absurd d
one_drawing_only far start (e ∷ es) [] d q = absurd q
one_drawing_only far start (e ∷ es) (f ∷ fs) d q =
    let rest : es ≡ fs = one_rest far es fs (start ∷ []) 0 1 (entries_below 1 (far start)) (first_falls (far start)) (drawing_rest far e es start d) (drawing_rest far f fs start q) in
    let first : e ≡ f = same_entry e f (d.0 ∙ sym q.0) (d.1 ∙ sym q.1) in
    ap (λ (x : Entry). x ∷ es) first ∙ ap (λ (xs : List Entry). f ∷ xs) rest
