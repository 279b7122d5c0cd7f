-- What a drawing has of each node and each edge.
use Rattle.std.proofs.Common.{◌≡◌, ℕ, suc, ◌+◌, Bool, true, false, ◌||◌, cond, eqb, leb, List, [], ◌∷◌, ◌++◌, length, refl, sym, ap, subst, ◌∙◌, arith, inl, inr}
use Rattle.std.specs.List.{AllByRecursion}
use Rattle.std.proofs.lemmas.Bool.{cases_eq, cases_Bool, eq-eqb, ne_eqb, eqb-true, or_cases, or_left, or_right, or_from}
use Rattle.std.proofs.lemmas.List.{length-append}
use Rattle.cargo_lock_graph.specs.declared.drawing.entry.Entry.{Entry}
use Rattle.cargo_lock_graph.specs.Drawing.{is_one_of, children, nodes_of, Occurs}
use Rattle.cargo_lock_graph.specs.DrawingSteps.{children_after, HaveChildren, DrawsFrom}
use Rattle.cargo_lock_graph.specs.DrawingMade.{entries_below}
use Rattle.cargo_lock_graph.specs.Paths.{IsPath, IsReachable}
use Rattle.cargo_lock_graph.specs.DrawingPlaces.{children_count}
use Rattle.cargo_lock_graph.proofs.DrawingRest.{Falls, Rest, none_waits, none_follows, next, falls_on}
use Rattle.cargo_lock_graph.proofs.DrawingMade.{drawing_rest, first_falls}

-- ---- what occurs is reachable

abbrev AllNodes : (ℕ → Type 0) → List Entry → Type 0
AllNodes R p = AllByRecursion (λ (e : Entry). R e.node) p

all_append : (R : ℕ → Type 0) (p q : List Entry) → AllNodes R p → AllNodes R q → AllNodes R (p ++ q)
all_append R [] q h k = k
all_append R (e ∷ p) q h k = (h.0, all_append R p q h.1 k)

all_deeper : (R : ℕ → Type 0) (d : ℕ) (ns : List ℕ) → ((b : ℕ) → is_one_of b ns ≡ true → R b) → AllNodes R (entries_below d ns)
all_deeper R d [] h = tt
all_deeper R d (n ∷ ns) h = (h n (or_left (eqb n n) (is_one_of n ns) (eq-eqb n n refl)), all_deeper R d ns (λ b in'. h b (or_right (eqb b n) (is_one_of b ns) in')))

expected_far : (far : ℕ → List ℕ) (earlier : List ℕ) (n b : ℕ) → is_one_of b (children_after far earlier n) ≡ true → is_one_of b (far n) ≡ true
expected_far far earlier n b h =
    elim (cases_Bool (is_one_of n earlier)) [
      | inl t ↦ (let w : is_one_of b [] ≡ true = subst (λ (x : Bool). is_one_of b (cond x [] (far n)) ≡ true) t h in absurd cc)
      | inr f ↦ subst (λ (x : Bool). is_one_of b (cond x [] (far n)) ≡ true) f h
    ]

all_reached : (far : ℕ → List ℕ) (R : ℕ → Type 0) → ((a b : ℕ) → R a → is_one_of b (far a) ≡ true → R b) → (es : List Entry) (earlier : List ℕ) (before limit : ℕ) (p : List Entry) → Falls limit p → Rest far earlier before p es → AllNodes R p → AllNodes R es
all_reached far R on [] earlier before limit p h r all = tt
all_reached far R on (e ∷ es) earlier before limit [] h r all = let w = none_waits far earlier before (e ∷ es) r in absurd cc
all_reached far R on (e ∷ es) earlier before limit (f ∷ p) h r all =
    let n = next far earlier before limit f p e es h r in
    let ns : List ℕ = children_after far earlier f.node in
    let kids = all_deeper R (suc f.depth) ns (λ b in'. on f.node b all.0 (expected_far far earlier f.node b in')) in
    (subst (λ (x : Entry). R x.node) (sym n.same) all.0, all_reached far R on es (f.node ∷ earlier) f.depth (suc f.depth) (entries_below (suc f.depth) ns ++ p) (falls_on limit f p ns h) n.rest (all_append R (entries_below (suc f.depth) ns) p kids all.1))

one_of_all : (R : ℕ → Type 0) (n : ℕ) (es : List Entry) → AllNodes R es → Occurs n es → R n
one_of_all R n [] all h = absurd cc
one_of_all R n (e ∷ es) all h =
    elim (or_cases (eqb n e.node) (is_one_of n (nodes_of es)) h) [
      | inl same ↦ subst R (sym (eqb-true n e.node same)) all.0
      | inr later ↦ one_of_all R n es all.1 later
    ]

leads_more : (far : ℕ → List ℕ) (a : ℕ) (path : List ℕ) (n b : ℕ) → IsPath far a path n → is_one_of b (far n) ≡ true → IsPath far a (path ++ b ∷ []) b
leads_more far a [] n b h t = (subst (λ (x : ℕ). is_one_of b (far x) ≡ true) (sym h) t, refl)
leads_more far a (c ∷ path) n b h t = (h.0, leads_more far c path n b h.1 t)

pub occurs_reachable : (far : ℕ → List ℕ) (start : ℕ) (es : List Entry) (n : ℕ) → DrawsFrom far start es → Occurs n es → IsReachable far start n
occurs_reachable far start [] n d h = absurd d
occurs_reachable far start (e ∷ es) n d h =
    let R : ℕ → Type 0 = IsReachable far start in
    let on : (a b : ℕ) → R a → is_one_of b (far a) ≡ true → R b = λ a b r t. (r.0 ++ b ∷ [], leads_more far start r.0 a b r.1 t) in
    let root : R start = ([], refl) in
    let kids = all_deeper R 1 (far start) (λ b t. on start b root t) in
    let all = all_reached far R on es (start ∷ []) 0 1 (entries_below 1 (far start)) (first_falls (far start)) (drawing_rest far e es start d) kids in
    one_of_all R n (e ∷ es) (subst R (sym d.0) root, all) h

-- ---- what is reachable occurs

child_in : (b d : ℕ) (es : List Entry) → is_one_of b (children d es) ≡ true → Occurs b es
child_in b d [] h = h
child_in b d (e ∷ es) h =
    elim (cases_Bool (leb e.depth d)) [
      | inl t ↦ (let w : is_one_of b [] ≡ true = subst (λ (x : Bool). is_one_of b (cond x [] (cond (eqb e.depth (suc d)) (e.node ∷ children d es) (children d es))) ≡ true) t h in absurd cc)
      | inr f ↦ (let w : is_one_of b (cond (eqb e.depth (suc d)) (e.node ∷ children d es) (children d es)) ≡ true = subst (λ (x : Bool). is_one_of b (cond x [] (cond (eqb e.depth (suc d)) (e.node ∷ children d es) (children d es))) ≡ true) f h in
          elim (cases_Bool (eqb e.depth (suc d))) [
            | inl t ↦ (let v : (eqb b e.node || is_one_of b (children d es)) ≡ true = subst (λ (x : Bool). is_one_of b (cond x (e.node ∷ children d es) (children d es)) ≡ true) t w in
                elim (or_cases (eqb b e.node) (is_one_of b (children d es)) v) [
                  | inl same ↦ or_left (eqb b e.node) (is_one_of b (nodes_of es)) same
                  | inr later ↦ or_right (eqb b e.node) (is_one_of b (nodes_of es)) (child_in b d es later)
                ])
            | inr f2 ↦ or_right (eqb b e.node) (is_one_of b (nodes_of es)) (child_in b d es (subst (λ (x : Bool). is_one_of b (cond x (e.node ∷ children d es) (children d es)) ≡ true) f2 w))
          ])
    ]

far_occurs : (far : ℕ → List ℕ) (n b : ℕ) (es : List Entry) (earlier : List ℕ) → HaveChildren far earlier es → is_one_of n earlier ≡ false → Occurs n es → is_one_of b (far n) ≡ true → Occurs b es
far_occurs far n b [] earlier have new h t = absurd cc
far_occurs far n b (e ∷ es) earlier have new h t =
    elim (cases_eq n e.node) [
      | inl same ↦ (let kids : children e.depth es ≡ far n = have.0 ∙ ap (children_after far earlier) (sym same) ∙ rw new refl in
          or_right (eqb b e.node) (is_one_of b (nodes_of es)) (child_in b e.depth es (subst (λ (ns : List ℕ). is_one_of b ns ≡ true) (sym kids) t)))
      | inr other ↦ (let later : Occurs n es = elim (or_cases (eqb n e.node) (is_one_of n (nodes_of es)) h) [ inl same ↦ absurd (other (eqb-true n e.node same)) | inr later ↦ later ] in
          or_right (eqb b e.node) (is_one_of b (nodes_of es)) (far_occurs far n b es (e.node ∷ earlier) have.1 (or_from (eqb n e.node) (is_one_of n earlier) (ne_eqb n e.node other) new) later t))
    ]

path_occurs : (far : ℕ → List ℕ) (es : List Entry) → HaveChildren far [] es → (a : ℕ) (path : List ℕ) (n : ℕ) → Occurs a es → IsPath far a path n → Occurs n es
path_occurs far es have a [] n h l = subst (λ (x : ℕ). Occurs x es) l h
path_occurs far es have a (b ∷ path) n h l = path_occurs far es have b path n (far_occurs far a b es [] have refl h l.0) l.1

pub reachable_occurs : (far : ℕ → List ℕ) (start : ℕ) (es : List Entry) (n : ℕ) → DrawsFrom far start es → IsReachable far start n → Occurs n es
reachable_occurs far start [] n d r = absurd d
reachable_occurs far start (e ∷ es) n d r =
    path_occurs far (e ∷ es) d.3 start r.0 n (or_left (eqb start e.node) (is_one_of start (nodes_of es)) (eq-eqb start e.node (sym d.0))) r.1

-- ---- how many entries

length-entries_below : (d : ℕ) (ns : List ℕ) → length (entries_below d ns) ≡ length ns
length-entries_below d [] = refl
length-entries_below d (n ∷ ns) = ap suc (length-entries_below d ns)

length_rest : (far : ℕ → List ℕ) (es : List Entry) (earlier : List ℕ) (before limit : ℕ) (p : List Entry) → Falls limit p → Rest far earlier before p es → length es ≡ length p + children_count far earlier es
length_rest far [] earlier before limit p h r = let e = none_follows far earlier before limit p h r in omega (arith, ap length e)
length_rest far (e ∷ es) earlier before limit [] h r = let w = none_waits far earlier before (e ∷ es) r in absurd cc
length_rest far (e ∷ es) earlier before limit (f ∷ p) h r =
    let n = next far earlier before limit f p e es h r in
    let ns : List ℕ = children_after far earlier f.node in
    let ih = length_rest far es (f.node ∷ earlier) f.depth (suc f.depth) (entries_below (suc f.depth) ns ++ p) (falls_on limit f p ns h) n.rest in
    let same : children_count far earlier (f ∷ es) ≡ children_count far earlier (e ∷ es) = ap (λ (x : Entry). children_count far earlier (x ∷ es)) (sym n.same) in
    omega (arith, ih, same, length-append (entries_below (suc f.depth) ns) p, length-entries_below (suc f.depth) ns)

-- one more than the children of all entries
pub length_drawing : (far : ℕ → List ℕ) (start : ℕ) (es : List Entry) → DrawsFrom far start es → length es ≡ suc (children_count far [] es)
length_drawing far start [] d = absurd d
length_drawing far start (e ∷ es) d =
    let r = length_rest far es (start ∷ []) 0 1 (entries_below 1 (far start)) (first_falls (far start)) (drawing_rest far e es start d) in
    let a : children_count far [] (e ∷ es) ≡ length (far start) + children_count far (start ∷ []) es = ap (λ (n : ℕ). length (far n) + children_count far (n ∷ []) es) d.0 in
    omega (arith, r, a, length-entries_below 1 (far start))
