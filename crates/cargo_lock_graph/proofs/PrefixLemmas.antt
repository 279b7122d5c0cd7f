-- The prefix that earlier entries and their children tell is the one that later entries tell.
use Rattle.std.proofs.Common.{◌≡◌, ℕ, zero, suc, ◌-◌, ◌+◌, ◌<◌, ◌≤◌, Bool, true, false, cond, leb, List, [], ◌∷◌, ◌++◌, length, get_or, drop, refl, sym, ap, subst, ◌∙◌, arith, inl, inr}
use Rattle.std.proofs.lemmas.Bool.{cases_eq, le-leb, lt-leb, eq-eqb, ne_eqb}
use Rattle.std.proofs.lemmas.List.{get_or-drop, drop-drop, drop_more, drop_all, length-drop}
use Rattle.cargo_lock_graph.specs.declared.drawing.entry.Entry.{Entry}
use Rattle.cargo_lock_graph.specs.Drawing.{children}
use Rattle.cargo_lock_graph.specs.DrawingSteps.{AreSteps, DrawsFrom}
use Rattle.cargo_lock_graph.specs.DrawingPlaces.{child_places, no_entry}
use Rattle.cargo_lock_graph.specs.DrawingText.{SymbolTexts, level_text, branch_text, depth_at, last_before, children_at, is_any_above, has_later_sibling, levels_at, prefix_at, lines_from, drawing_text}
use Rattle.cargo_lock_graph.specs.DrawingByLater.{is_any, goes_on, levels_text, prefix_by_later, line_by_later, drawn_by_later}

-- ---- depths

-- no depth is more than one greater than the depth before, and the first is none
pub record Climbs (es : List Entry) : Type 0 where
  pub start : depth_at es 0 ≡ 0
  pub step : (k : ℕ) → suc k < length es → depth_at es (suc k) ≤ suc (depth_at es k)

climbs_on : (e : Entry) (es : List Entry) → AreSteps e.depth es → (k : ℕ) → suc k < length (e ∷ es) → depth_at (e ∷ es) (suc k) ≤ suc (depth_at (e ∷ es) k)
climbs_on e [] h k lt = absurd (omega arith)
climbs_on e (f ∷ es) h zero lt = h.1
climbs_on e (f ∷ es) h (suc k) lt = climbs_on f es h.2 k (omega arith)

climbs : (far : ℕ → List ℕ) (start : ℕ) (es : List Entry) → DrawsFrom far start es → Climbs es
climbs far start [] d = absurd d
climbs far start (e ∷ es) d =
    record { start = d.1; step = λ k lt. climbs_on e es (subst (λ (n : ℕ). AreSteps n es) (sym d.1) d.2) k lt }

-- the last entry before of a lesser depth, and only deeper ones after it
record Ancestor (es : List Entry) (level k j : ℕ) : Type 0 where
  pub before : j < k
  pub depth : depth_at es j ≡ level
  pub deeper : (i : ℕ) → j < i → i ≤ k → level < depth_at es i

ancestor : (es : List Entry) → Climbs es → (level k : ℕ) → k < length es → level < depth_at es k → Ancestor es level k (last_before es level k)
ancestor es c level zero lt less = absurd (omega (arith, c.start))
ancestor es c level (suc k) lt less =
    elim (cases_eq (depth_at es k) level) [
      | inl same ↦ rw (eq-eqb (depth_at es k) level same) (record {
        before = omega arith;
        depth = same;
        deeper = λ i more most. (let is : suc k ≡ i = omega arith in subst (λ (n : ℕ). level < depth_at es n) is less);
      })
      | inr other ↦ rw (ne_eqb (depth_at es k) level other) (
          let above : level < depth_at es k = omega (arith, c.step k lt) in
          let a = ancestor es c level k (omega arith) above in
          record {
            before = omega (arith, a.before);
            depth = a.depth;
            deeper = λ i more most. elim (cases_eq i (suc k)) [
              | inl is ↦ subst (λ (n : ℕ). level < depth_at es n) (sym is) less
              | inr earlier ↦ a.deeper i more (omega arith)
            ];
          })
    ]

-- ---- children after a place

above_all : (depth at q : ℕ) (later : List Entry) → q < at → is_any_above q (child_places depth at later) ≡ is_any (children depth later)
above_all depth at q [] lt = refl
above_all depth at q (e ∷ later) lt =
    elim (cases_eq e.depth (suc depth)) [
      | inl same ↦ rw (lt-leb e.depth depth (omega arith), eq-eqb e.depth (suc depth) same, le-leb (suc q) at lt) refl
      | inr other ↦ rw (ne_eqb e.depth (suc depth) other) (elim (leb e.depth depth) as (λ b. is_any_above q (cond b [] (child_places depth (suc at) later)) ≡ is_any (cond b [] (children depth later))) [
        | true ↦ refl
        | false ↦ above_all depth (suc at) q later (omega arith)
      ])
    ]

above_skip : (m depth at q : ℕ) (later : List Entry) → suc q ≡ at + m → m ≤ length later → ((i : ℕ) → i < m → depth < depth_at later i) → is_any_above q (child_places depth at later) ≡ is_any (children depth (drop m later))
above_skip zero depth at q later is le deep = above_all depth at q later (omega arith)
above_skip (suc m) depth at q [] is le deep = absurd (omega arith)
above_skip (suc m) depth at q (e ∷ later) is le deep =
    let here : depth < e.depth = deep 0 (omega arith) in
    let on = above_skip m depth (suc at) q later (omega arith) (omega arith) (λ i lt. deep (suc i) (omega arith)) in
    elim (cases_eq e.depth (suc depth)) [
      | inl same ↦ rw (lt-leb e.depth depth here, eq-eqb e.depth (suc depth) same, lt-leb (suc q) at (omega arith)) on
      | inr other ↦ rw (lt-leb e.depth depth here, ne_eqb e.depth (suc depth) other) on
    ]

children_skip : (m depth : ℕ) (later : List Entry) → m ≤ length later → ((i : ℕ) → i < m → suc depth < depth_at later i) → children depth later ≡ children depth (drop m later)
children_skip zero depth later le deep = refl
children_skip (suc m) depth [] le deep = absurd (omega arith)
children_skip (suc m) depth (e ∷ later) le deep =
    let here : suc depth < e.depth = deep 0 (omega arith) in
    rw (lt-leb e.depth depth (omega arith), ne_eqb e.depth (suc depth) (λ same. omega arith))
    (children_skip m depth later (omega arith) (λ i lt. deep (suc i) (omega arith)))

-- ---- later siblings

depth-drop : (es : List Entry) (k i : ℕ) → depth_at (drop k es) i ≡ depth_at es (k + i)
depth-drop es k i = ap (λ (e : Entry). e.depth) (get_or-drop k es i no_entry)

-- after a child of an entry, with only deeper entries than that between
sibling_of : (es : List Entry) (p q : ℕ) → p < q → q < length es → ((i : ℕ) → p < i → i ≤ q → depth_at es p < depth_at es i) → is_any_above q (children_at es p) ≡ goes_on (depth_at es p) (drop (suc q) es)
sibling_of es p q lt in' deep =
    let m : ℕ = q - p in
    let skip = above_skip m (depth_at es p) (suc p) q (drop (suc p) es) (omega arith) (omega (arith, length-drop (suc p) es))
    (λ i less. subst (λ (n : ℕ). depth_at es p < n) (sym (depth-drop es (suc p) i)) (deep (suc p + i) (omega arith) (omega arith))) in
    let n : suc p + m ≡ suc q = omega arith in
    skip ∙ ap (λ (l : List Entry). is_any (children (depth_at es p) l)) (drop-drop m (suc p) es ∙ ap (λ (k : ℕ). drop k es) n)

sibling_at : (es : List Entry) → Climbs es → (q depth : ℕ) → q < length es → depth_at es q ≡ suc depth → has_later_sibling es q ≡ goes_on depth (drop (suc q) es)
sibling_at es c q depth in' is =
    let n : depth_at es q - 1 ≡ depth = omega arith in
    let a = ancestor es c depth q in' (omega arith) in
    let p : ℕ = last_before es depth q in
    ap (λ (k : ℕ). is_any_above q (children_at es (last_before es k q))) n
    ∙ sibling_of es p q a.before in' (λ i more most. subst (λ (k : ℕ). k < depth_at es i) (sym a.depth) (a.deeper i more most))
    ∙ ap (λ (k : ℕ). goes_on k (drop (suc q) es)) a.depth

-- the ancestor at a level has a later sibling where the level goes on
level_goes_on : (es : List Entry) → Climbs es → (k depth : ℕ) → k < length es → suc depth < depth_at es k → has_later_sibling es (last_before es (suc depth) k) ≡ goes_on depth (drop (suc k) es)
level_goes_on es c k depth in' less =
    let a = ancestor es c (suc depth) k in' less in
    let j : ℕ = last_before es (suc depth) k in
    let m : ℕ = k - j in
    let skip = children_skip m depth (drop (suc j) es) (omega (arith, length-drop (suc j) es, a.before))
    (λ i lt. subst (λ (n : ℕ). suc depth < n) (sym (depth-drop es (suc j) i)) (a.deeper (suc j + i) (omega arith) (omega (arith, a.before)))) in
    let n : suc j + m ≡ suc k = omega (arith, a.before) in
    sibling_at es c j depth (omega (arith, a.before)) a.depth
    ∙ ap is_any (skip ∙ ap (children depth) (drop-drop m (suc j) es ∙ ap (λ (i : ℕ). drop i es) n))

-- ---- lines

levels_same : (s : SymbolTexts) (es : List Entry) → Climbs es → (k n : ℕ) → k < length es → n < depth_at es k → levels_at s es k n ≡ levels_text s n (drop (suc k) es)
levels_same s es c k zero in' less = refl
levels_same s es c k (suc n) in' less =
    ap (λ (t : List ℕ). t ++ level_text s (has_later_sibling es (last_before es (suc n) k))) (levels_same s es c k n in' (omega arith))
    ∙ ap (λ (b : Bool). levels_text s n (drop (suc k) es) ++ level_text s b) (level_goes_on es c k n in' less)

prefix_same : (s : SymbolTexts) (es : List Entry) → Climbs es → (k depth : ℕ) → k < length es → depth_at es k ≡ depth → prefix_at s es k depth ≡ prefix_by_later s depth (drop (suc k) es)
prefix_same s es c k zero in' is = refl
prefix_same s es c k (suc depth) in' is =
    ap (λ (t : List ℕ). t ++ branch_text s (has_later_sibling es k)) (levels_same s es c k depth in' (omega arith))
    ∙ ap (λ (b : Bool). levels_text s depth (drop (suc k) es) ++ branch_text s b) (sibling_at es c k depth in' is)

lines_same : (s : SymbolTexts) (label : ℕ → List ℕ) (es : List Entry) → Climbs es → (count k : ℕ) → k + count ≡ length es → lines_from s label es k count ≡ drawn_by_later s label (drop k es)
lines_same s label es c zero k is = ap (drawn_by_later s label) (sym (drop_all k es (omega arith)))
lines_same s label es c (suc count) k is =
    let e : Entry = get_or es k no_entry in
    let later : List Entry = drop (suc k) es in
    let n : k + 1 ≡ suc k = omega arith in
    let split : drop k es ≡ e ∷ later = drop_more es k no_entry (omega arith) ∙ ap (λ (i : ℕ). e ∷ drop i es) n in
    ap (λ (t : List ℕ). (t ++ (label e.node ++ 10 ∷ [])) ++ lines_from s label es (suc k) count) (prefix_same s es c k (depth_at es k) (omega arith) refl)
    ∙ ap (λ (t : List ℕ). line_by_later s label e later ++ t) (lines_same s label es c count (suc k) (omega arith))
    ∙ sym (ap (drawn_by_later s label) split)

pub drawn_same : (far : ℕ → List ℕ) (start : ℕ) (es : List Entry) (s : SymbolTexts) (label : ℕ → List ℕ) → DrawsFrom far start es → drawing_text s label es ≡ drawn_by_later s label es
unfolding drawing_text
drawn_same far start es s label d = lines_same s label es (climbs far start es d) (length es) 0 (omega arith)
