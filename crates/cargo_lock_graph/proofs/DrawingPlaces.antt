-- Each entry but the first is the child of one entry, once.
use Rattle.std.proofs.Common.{◌≡◌, ℕ, zero, suc, ◌-◌, ◌+◌, ◌<◌, ◌≤◌, cond, eqb, List, [], ◌∷◌, ◌++◌, length, refl, sym, ap, subst, ◌∙◌, arith, inl, inr}
use Rattle.std.proofs.lemmas.Bool.{cases_eq, le-leb, lt-leb, eq-eqb, ne_eqb}
use Rattle.cargo_lock_graph.specs.declared.drawing.entry.Entry.{Entry}
use Rattle.cargo_lock_graph.specs.DrawingSteps.{AreSteps, DrawsFrom}
use Rattle.cargo_lock_graph.specs.DrawingPlaces.{child_places, all_places, occurrences}

-- children of all depths up to this one
abbrev upto : ℕ → ℕ → List Entry → List ℕ
upto zero at es = child_places zero at es
upto (suc d) at es = child_places (suc d) at es ++ upto d at es

abbrev inside : ℕ → ℕ → List Entry → ℕ
inside j at [] = 0
inside j at (e ∷ es) = cond (eqb at j) 1 0 + inside j (suc at) es

pub occ-append : (j : ℕ) (xs ys : List ℕ) → occurrences j (xs ++ ys) ≡ occurrences j xs + occurrences j ys
occ-append j [] ys = omega arith
occ-append j (x ∷ xs) ys = omega (arith, occ-append j xs ys)

places-stop : (d at : ℕ) (e : Entry) (es : List Entry) → e.depth ≤ d → child_places d at (e ∷ es) ≡ []
places-stop d at e es h = rw (le-leb e.depth d h) refl

places-here : (d at : ℕ) (e : Entry) (es : List Entry) → e.depth ≡ suc d → child_places d at (e ∷ es) ≡ at ∷ child_places d (suc at) es
places-here d at e es h = rw (lt-leb e.depth d (omega (arith, h)), eq-eqb e.depth (suc d) h) refl

places-past : (d at : ℕ) (e : Entry) (es : List Entry) → suc d < e.depth → child_places d at (e ∷ es) ≡ child_places d (suc at) es
places-past d at e es h = rw (lt-leb e.depth d (omega (arith, h)), ne_eqb e.depth (suc d) (λ same. omega arith)) refl

upto-nil : (j d at : ℕ) → occurrences j (upto d at []) ≡ 0
upto-nil j zero at = refl
upto-nil j (suc d) at = upto-nil j d at

upto-past : (d at : ℕ) (e : Entry) (es : List Entry) → suc d < e.depth → upto d at (e ∷ es) ≡ upto d (suc at) es
upto-past zero at e es h = places-past zero at e es h
upto-past (suc d) at e es h =
    ap (λ (ns : List ℕ). ns ++ upto d at (e ∷ es)) (places-past (suc d) at e es h) ∙ ap (λ (ns : List ℕ). child_places (suc d) (suc at) es ++ ns) (upto-past d at e es (omega arith))

upto-step : (j d at k : ℕ) (e : Entry) (es : List Entry) → e.depth ≡ suc k → k ≤ d → occurrences j (upto d at (e ∷ es)) ≡ cond (eqb at j) 1 0 + occurrences j (upto k (suc at) es)
upto-step j zero at k e es h le =
    let none : k ≡ zero = omega arith in
    ap (occurrences j) (places-here zero at e es (omega arith)) ∙ ap (λ (n : ℕ). cond (eqb at j) 1 0 + occurrences j (upto n (suc at) es)) (sym none)
upto-step j (suc d) at k e es h le =
    elim (cases_eq k (suc d)) [
      | inl same ↦ (let here = places-here (suc d) at e es (omega arith) in let past = upto-past d at e es (omega arith) in
          let both = ap (occurrences j) (ap (λ (ns : List ℕ). ns ++ upto d at (e ∷ es)) here ∙ ap (λ (ns : List ℕ). (at ∷ child_places (suc d) (suc at) es) ++ ns) past) in
          both ∙ ap (λ (n : ℕ). cond (eqb at j) 1 0 + occurrences j (upto n (suc at) es)) (sym same))
      | inr other ↦ ap (λ (ns : List ℕ). occurrences j (ns ++ upto d at (e ∷ es))) (places-stop (suc d) at e es (omega arith)) ∙ upto-step j d at k e es h (omega arith)
    ]

counted : (j : ℕ) (es : List Entry) (before at : ℕ) → AreSteps before es → occurrences j (all_places at es) + occurrences j (upto before at es) ≡ inside j at es
counted j [] before at h = omega (arith, upto-nil j before at)
counted j (e ∷ es) before at h =
    let k : ℕ = e.depth - 1 in
    let is : e.depth ≡ suc k = omega (arith, h.0) in
    let up = upto-step j before at k e es is (omega (arith, h.1)) in
    let ih = counted j es (suc k) (suc at) (subst (λ (n : ℕ). AreSteps n es) is h.2) in
    let own = ap (λ (n : ℕ). occurrences j (child_places n (suc at) es)) is in
    omega (arith, up, ih, own, occ-append j (child_places e.depth (suc at) es) (all_places (suc at) es), occ-append j (child_places (suc k) (suc at) es) (upto k (suc at) es))

inside_none : (j at : ℕ) (es : List Entry) → j < at → inside j at es ≡ 0
inside_none j at [] h = refl
inside_none j at (e ∷ es) h = rw (ne_eqb at j (λ same. omega arith)) (omega (arith, inside_none j (suc at) es (omega arith)))

inside_one : (j at : ℕ) (es : List Entry) → at ≤ j → j < at + length es → inside j at es ≡ 1
inside_one j at [] h lt = absurd (omega arith)
inside_one j at (e ∷ es) h lt =
    elim (cases_eq at j) [
      | inl same ↦ rw (eq-eqb at j same) (omega (arith, inside_none j (suc at) es (omega arith)))
      | inr other ↦ rw (ne_eqb at j other) (omega (arith, inside_one j (suc at) es (omega arith) (omega arith)))
    ]

pub one_parent : (far : ℕ → List ℕ) (start : ℕ) (es : List Entry) (j : ℕ) → DrawsFrom far start es → 0 < j → j < length es → occurrences j (all_places 0 es) ≡ 1
one_parent far start [] j d h lt = absurd d
one_parent far start (e ∷ es) j d h lt =
    let c = counted j es 0 1 d.2 in
    let own = ap (λ (n : ℕ). occurrences j (child_places n 1 es)) d.1 in
    omega (arith, c, own, occ-append j (child_places e.depth 1 es) (all_places 1 es), inside_one j 1 es h (omega arith))

inside_most : (j at : ℕ) (es : List Entry) → inside j at es ≤ 1
inside_most j at [] = omega arith
inside_most j at (e ∷ es) =
    elim (cases_eq at j) [
      | inl same ↦ rw (eq-eqb at j same) (omega (arith, inside_none j (suc at) es (omega arith)))
      | inr other ↦ rw (ne_eqb at j other) (omega (arith, inside_most j (suc at) es))
    ]

pub at_most_one : (far : ℕ → List ℕ) (start : ℕ) (es : List Entry) (j : ℕ) → DrawsFrom far start es → occurrences j (all_places 0 es) ≤ 1
at_most_one far start [] j d = absurd d
at_most_one far start (e ∷ es) j d =
    let c = counted j es 0 1 d.2 in
    let own = ap (λ (n : ℕ). occurrences j (child_places n 1 es)) d.1 in
    omega (arith, c, own, occ-append j (child_places e.depth 1 es) (all_places 1 es), inside_most j 1 es)
