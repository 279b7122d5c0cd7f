-- The rest of a drawing after some of its entries, told by the entries that are still to come.
use Rattle.std.proofs.Common.{◌≡◌, ℕ, suc, ◌-◌, ◌<◌, ◌≤◌, cond, eqb, List, [], ◌∷◌, ◌++◌, refl, le_refl, sym, ap, subst, ◌∙◌, arith, inl, inr}
use Rattle.std.proofs.lemmas.Bool.{cases_eq, cases_order, le-leb, lt-leb, eq-eqb, ne_eqb}
use Rattle.std.proofs.lemmas.List.{append-nil}
use Rattle.cargo_lock_graph.specs.Drawing.{children}
use Rattle.cargo_lock_graph.specs.DrawingSteps.{AreSteps, children_after, HaveChildren}
use Rattle.cargo_lock_graph.specs.declared.drawing.entry.Entry.{Entry}
use Rattle.cargo_lock_graph.specs.DrawingMade.{entries_below}

pub same_entry : (e f : Entry) → e.node ≡ f.node → e.depth ≡ f.depth → e ≡ f
same_entry e f p q = λ i. record { node = p i; depth = q i }

-- the nodes of the entries at a depth
abbrev pub at_level : ℕ → List Entry → List ℕ
at_level k [] = []
at_level k (e ∷ p) = cond (eqb e.depth k) (e.node ∷ at_level k p) (at_level k p)

-- what is still to come falls from the limit to 1
abbrev pub Falls : ℕ → List Entry → Type 0
Falls limit [] = Unit {0}
Falls limit (e ∷ p) = (0 < e.depth) × (e.depth ≤ limit) × Falls e.depth p

pub record Rest (far : ℕ → List ℕ) (earlier : List ℕ) (before : ℕ) (p es : List Entry) : Type 0 where
  pub steps : AreSteps before es
  pub waits : (d : ℕ) → children d es ≡ at_level (suc d) p
  pub have : HaveChildren far earlier es

-- ---- levels

pub level-append : (k : ℕ) (p q : List Entry) → at_level k (p ++ q) ≡ at_level k p ++ at_level k q
level-append k [] q = refl
level-append k (e ∷ p) q =
    elim (cases_eq e.depth k) [
      | inl same ↦ rw (eq-eqb e.depth k same) (ap (λ (ns : List ℕ). e.node ∷ ns) (level-append k p q))
      | inr other ↦ rw (ne_eqb e.depth k other) (level-append k p q)
    ]

pub level-same : (k : ℕ) (ns : List ℕ) → at_level k (entries_below k ns) ≡ ns
level-same k [] = refl
level-same k (n ∷ ns) = rw (eq-eqb k k refl) (ap (λ (ms : List ℕ). n ∷ ms) (level-same k ns))

pub level-other : (k d : ℕ) (ns : List ℕ) → (d ≡ k → ⊥) → at_level k (entries_below d ns) ≡ []
level-other k d [] h = refl
level-other k d (n ∷ ns) h = rw (ne_eqb d k h) (level-other k d ns h)

pub level-above : (k limit : ℕ) (p : List Entry) → Falls limit p → limit < k → at_level k p ≡ []
level-above k limit [] h lt = refl
level-above k limit (e ∷ p) h lt = rw (ne_eqb e.depth k (λ same. omega (arith, h.1))) (level-above k e.depth p h.2 (omega (arith, h.1)))

pub deep : (d before : ℕ) (es : List Entry) → AreSteps before es → before < d → children d es ≡ []
deep d before [] h lt = refl
deep d before (e ∷ es) h lt = rw (le-leb e.depth d (omega (arith, h.1))) refl

-- the three ways in which an entry stands to a depth
pub children-stop : (d : ℕ) (e : Entry) (es : List Entry) → e.depth ≤ d → children d (e ∷ es) ≡ []
children-stop d e es h = rw (le-leb e.depth d h) refl

pub children-here : (d : ℕ) (e : Entry) (es : List Entry) → e.depth ≡ suc d → children d (e ∷ es) ≡ e.node ∷ children d es
children-here d e es h = rw (lt-leb e.depth d (omega (arith, h)), eq-eqb e.depth (suc d) h) refl

pub children-past : (d : ℕ) (e : Entry) (es : List Entry) → suc d < e.depth → children d (e ∷ es) ≡ children d es
children-past d e es h = rw (lt-leb e.depth d (omega (arith, h)), ne_eqb e.depth (suc d) (λ same. omega arith)) refl

pub level-here : (k : ℕ) (e : Entry) (p : List Entry) → e.depth ≡ k → at_level k (e ∷ p) ≡ e.node ∷ at_level k p
level-here k e p h = rw (eq-eqb e.depth k h) refl

pub level-past : (k : ℕ) (e : Entry) (p : List Entry) → (e.depth ≡ k → ⊥) → at_level k (e ∷ p) ≡ at_level k p
level-past k e p h = rw (ne_eqb e.depth k h) refl

-- the children that are put before what is still to come
pub level-new : (k d : ℕ) (ns : List ℕ) (p : List Entry) → (suc d ≡ k → ⊥) → at_level k (entries_below (suc d) ns ++ p) ≡ at_level k p
level-new k d ns p h = level-append k (entries_below (suc d) ns) p ∙ ap (λ (ms : List ℕ). ms ++ at_level k p) (level-other k (suc d) ns h)

pub level-kids : (d : ℕ) (ns : List ℕ) (p : List Entry) → Falls d p → at_level (suc d) (entries_below (suc d) ns ++ p) ≡ ns
level-kids d ns p h = level-append (suc d) (entries_below (suc d) ns) p ∙ ap (λ (ms : List ℕ). ms ++ at_level (suc d) p) (level-same (suc d) ns) ∙ ap (λ (ms : List ℕ). ns ++ ms) (level-above (suc d) d p h (omega arith)) ∙ append-nil ns

-- ---- one entry on

-- what stands before the next entry's children are drawn_by_later
pub entries_below-falls : (d : ℕ) (ns : List ℕ) (p : List Entry) → Falls d p → Falls (suc d) (entries_below (suc d) ns ++ p)
entries_below-falls d [] [] h = tt
entries_below-falls d [] (e ∷ p) h = (h.0, omega (arith, h.1), h.2)
entries_below-falls d (n ∷ ns) p h = (omega arith, omega arith, entries_below-falls d ns p h)

-- where nothing is to come, nothing follows
pub none_waits : (far : ℕ → List ℕ) (earlier : List ℕ) (before : ℕ) (es : List Entry) → Rest far earlier before [] es → es ≡ []
none_waits far earlier before [] r = refl
none_waits far earlier before (e ∷ es) r =
    let d : ℕ = e.depth - 1 in
    let here : e.depth ≡ suc d = omega (arith, r.steps.0) in
    let w : e.node ∷ children d es ≡ [] = sym (children-here d e es here) ∙ r.waits d in
    absurd cc

pub none_follows : (far : ℕ → List ℕ) (earlier : List ℕ) (before limit : ℕ) (p : List Entry) → Falls limit p → Rest far earlier before p [] → p ≡ []
none_follows far earlier before limit [] h r = refl
none_follows far earlier before limit (e ∷ p) h r =
    let d : ℕ = e.depth - 1 in
    let here : e.depth ≡ suc d = omega (arith, h.0) in
    let w : [] ≡ e.node ∷ at_level (suc d) p = r.waits d ∙ level-here (suc d) e p here in
    absurd cc

pub record Next (far : ℕ → List ℕ) (earlier : List ℕ) (f : Entry) (p : List Entry) (e : Entry) (es : List Entry) : Type 0 where
  pub same : e ≡ f
  pub rest : Rest far (f.node ∷ earlier) f.depth (entries_below (suc f.depth) (children_after far earlier f.node) ++ p) es

-- the next entry is the first that is to come, and then its children are
pub next : (far : ℕ → List ℕ) (earlier : List ℕ) (before limit : ℕ) (f : Entry) (p : List Entry) (e : Entry) (es : List Entry) → Falls limit (f ∷ p) → Rest far earlier before (f ∷ p) (e ∷ es) → Next far earlier f p e es
next far earlier before limit f p e es h r =
    let d : ℕ = e.depth - 1 in
    let e_here : e.depth ≡ suc d = omega (arith, r.steps.0) in
    let g : ℕ = f.depth - 1 in
    let f_here : f.depth ≡ suc g = omega (arith, h.0) in
    let depths : e.depth ≡ f.depth = elim (cases_order e.depth f.depth) [
      | inl same ↦ same
      | inr (inl lt) ↦ (let w : [] ≡ f.node ∷ at_level (suc g) p = sym (children-stop g e es (omega arith)) ∙ r.waits g ∙ level-here (suc g) f p f_here in absurd cc)
      | inr (inr gt) ↦ (let w : e.node ∷ children d es ≡ [] = sym (children-here d e es e_here) ∙ r.waits d ∙ level-above (suc d) f.depth (f ∷ p) (h.0, le_refl f.depth, h.2) (omega arith) in absurd cc)
    ] in
    let both : e.node ∷ children d es ≡ f.node ∷ at_level (suc d) p = sym (children-here d e es e_here) ∙ r.waits d ∙ level-here (suc d) f p (omega arith) in
    let nodes : e.node ≡ f.node = cc both in
    let tails : children d es ≡ at_level (suc d) p = cc both in
    let same : e ≡ f = same_entry e f nodes depths in
    let ns = children_after far earlier f.node in
    record {
      same = same;
      rest = record {
        steps = subst (λ (n : ℕ). AreSteps n es) depths r.steps.2;
        waits = λ k. elim (cases_order (suc k) f.depth) [
          | inl eq ↦ (let dk : d ≡ k = omega arith in subst (λ (n : ℕ). children n es ≡ at_level (suc n) p) dk tails ∙ sym (level-new (suc k) f.depth ns p (λ x. omega arith)))
          | inr (inl lt) ↦ sym (children-past k e es (omega arith)) ∙ r.waits k ∙ level-past (suc k) f p (λ x. omega arith) ∙ sym (level-new (suc k) f.depth ns p (λ x. omega arith))
          | inr (inr gt) ↦ elim (cases_order k f.depth) [
            | inl eq ↦ ap (λ (n : ℕ). children n es) (eq ∙ sym depths) ∙ r.have.0 ∙ ap (children_after far earlier) nodes ∙ sym (level-kids f.depth ns p h.2) ∙ ap (λ (n : ℕ). at_level (suc n) (entries_below (suc f.depth) ns ++ p)) (sym eq)
            | inr (inl lt) ↦ absurd (omega arith)
            | inr (inr more) ↦ deep k e.depth es r.steps.2 (omega arith) ∙ sym (level-above (suc k) f.depth p h.2 (omega arith)) ∙ sym (level-new (suc k) f.depth ns p (λ x. omega arith))
          ]
        ];
        have = subst (λ (n : ℕ). HaveChildren far (n ∷ earlier) es) nodes r.have.1;
      };
    }

-- the other way: an entry, and what is drawn_by_later of its children and then of the rest
pub back : (far : ℕ → List ℕ) (earlier : List ℕ) (before limit : ℕ) (f : Entry) (p es : List Entry) → Falls limit (f ∷ p) → f.depth ≤ suc before → Rest far (f.node ∷ earlier) f.depth (entries_below (suc f.depth) (children_after far earlier f.node) ++ p) es → Rest far earlier before (f ∷ p) (f ∷ es)
back far earlier before limit f p es h le r =
    let ns = children_after far earlier f.node in
    record {
      steps = (h.0, le, r.steps);
      waits = λ k. elim (cases_order (suc k) f.depth) [
        | inl eq ↦ children-here k f es (sym eq) ∙ ap (λ (ms : List ℕ). f.node ∷ ms) (r.waits k ∙ level-new (suc k) f.depth ns p (λ x. omega arith)) ∙ sym (level-here (suc k) f p (sym eq))
        | inr (inl lt) ↦ children-past k f es lt ∙ r.waits k ∙ level-new (suc k) f.depth ns p (λ x. omega arith) ∙ sym (level-past (suc k) f p (λ x. omega arith))
        | inr (inr gt) ↦ children-stop k f es (omega arith) ∙ sym (level-above (suc k) f.depth (f ∷ p) (h.0, le_refl f.depth, h.2) gt)
      ];
      have = (r.waits f.depth ∙ level-kids f.depth ns p h.2, r.have);
    }

pub falls_on : (limit : ℕ) (f : Entry) (p : List Entry) (ns : List ℕ) → Falls limit (f ∷ p) → Falls (suc f.depth) (entries_below (suc f.depth) ns ++ p)
falls_on limit f p ns h = entries_below-falls f.depth ns p h.2

-- ---- one way to go on

pub one_rest : (far : ℕ → List ℕ) (es fs : List Entry) (earlier : List ℕ) (before limit : ℕ) (p : List Entry) → Falls limit p → Rest far earlier before p es → Rest far earlier before p fs → es ≡ fs
one_rest far [] fs earlier before limit p h r q =
    let empty = none_follows far earlier before limit p h r in
    sym (none_waits far earlier before fs (subst (λ (w : List Entry). Rest far earlier before w fs) empty q))
one_rest far (e ∷ es) [] earlier before limit p h r q =
    let empty = none_follows far earlier before limit p h q in
    none_waits far earlier before (e ∷ es) (subst (λ (w : List Entry). Rest far earlier before w (e ∷ es)) empty r)
one_rest far (e ∷ es) (f ∷ fs) earlier before limit [] h r q = none_waits far earlier before (e ∷ es) r ∙ sym (none_waits far earlier before (f ∷ fs) q)
one_rest far (e ∷ es) (f ∷ fs) earlier before limit (g ∷ p) h r q =
    let a = next far earlier before limit g p e es h r in
    let b = next far earlier before limit g p f fs h q in
    let rest : es ≡ fs = one_rest far es fs (g.node ∷ earlier) g.depth (suc g.depth) _ (falls_on limit g p (children_after far earlier g.node) h) a.rest b.rest in
    let first : e ≡ f = a.same ∙ sym b.same in
    ap (λ (x : Entry). x ∷ es) first ∙ ap (λ (xs : List Entry). f ∷ xs) rest
