-- The edges of reachable nodes and the entries after the first match one to one.
use Rattle.std.proofs.Common.{◌≡◌, ℕ, zero, suc, ◌+◌, ◌<◌, ◌≤◌, true, false, cond, eqb, leb, List, [], ◌∷◌, ◌++◌, length, get_or, map, refl, sym, ap, subst, ◌∙◌, append_assoc, arith, inl, inr}
use Rattle.std.proofs.lemmas.Bool.{cases_Bool, cases_eq, cases_lt, eq-eqb, ne_eqb, or_left, or_right}
use Rattle.std.proofs.lemmas.List.{length-append, append_cancel_left, get_or-map}
use Rattle.std.proofs.Math.Seq.{get_or-append_seam}
use Rattle.cargo_lock_graph.specs.declared.drawing.entry.Entry.{Entry}
use Rattle.cargo_lock_graph.specs.Drawing.{is_one_of, nodes_of, children, Occurs, IsFirst, IsDrawing}
use Rattle.cargo_lock_graph.specs.DrawingPlaces.{child_places, all_places, occurrences, no_entry, StandsAt, IsChildPlace, EdgesMatchEntries}
use Rattle.cargo_lock_graph.proofs.DrawingFirst.{first_of, one_first}
use Rattle.cargo_lock_graph.proofs.DrawingPlaces.{occ-append, one_parent, at_most_one}
use Rattle.cargo_lock_graph.proofs.DrawingReach.{occurs_reachable, reachable_occurs}
use Rattle.cargo_lock_graph.proofs.DrawingWords.{from_words}

-- ---- the entries at the places of children

abbrev node_at : List Entry → ℕ → ℕ
node_at es j = (get_or es j no_entry).node

abbrev Nodes : List Entry → ℕ → ℕ → List Entry → Type 0
Nodes all d at es = map (node_at all) (child_places d at es) ≡ children d es

places_nodes : (d : ℕ) (front es : List Entry) → Nodes (front ++ es) d (length front) es
places_nodes d front [] = refl
places_nodes d front (e ∷ es) =
    let next : List Entry = front ++ e ∷ [] in
    let all : next ++ es ≡ front ++ e ∷ es = append_assoc front (e ∷ []) es in
    let n : length next ≡ suc (length front) = omega (arith, length-append front (e ∷ [])) in
    let on : Nodes (front ++ e ∷ es) d (suc (length front)) es = subst (λ (l : List Entry). Nodes l d (suc (length front)) es) all (subst (λ (k : ℕ). Nodes (next ++ es) d k es) n (places_nodes d next es)) in
    let here : node_at (front ++ e ∷ es) (length front) ≡ e.node = ap (λ (x : Entry). x.node) (get_or-append_seam front e es no_entry) in
    elim (cases_Bool (leb e.depth d)) [
      | inl t ↦ rw t refl
      | inr f ↦ rw f (elim (cases_Bool (eqb e.depth (suc d))) [
        | inl t ↦ rw t (ap (λ (m : ℕ). m ∷ map (node_at (front ++ e ∷ es)) (child_places d (suc (length front)) es)) here ∙ ap (λ (ms : List ℕ). e.node ∷ ms) on)
        | inr f2 ↦ rw f2 on
      ])
    ]

abbrev Within : ℕ → ℕ → List ℕ → Type 0
Within low high ns = (k : ℕ) → k < length ns → (low ≤ get_or ns k 0) × (get_or ns k 0 < high)

within_more : (low at high : ℕ) (ns : List ℕ) → low ≤ at → Within at high ns → Within low high ns
within_more low at high ns le h k lt = (omega (arith, (h k lt).0), (h k lt).1)

within_first : (at high : ℕ) (ns : List ℕ) → at < high → Within at high ns → Within at high (at ∷ ns)
within_first at high ns less h zero lt = (omega arith, less)
within_first at high ns less h (suc k) lt = h k (omega arith)

places_within : (d at : ℕ) (es : List Entry) → Within at (at + length es) (child_places d at es)
places_within d at [] = λ k lt. absurd (omega arith)
places_within d at (e ∷ es) =
    let n : suc at + length es ≡ at + length (e ∷ es) = omega arith in
    let high : ℕ = at + length (e ∷ es) in
    let on : Within (suc at) high (child_places d (suc at) es) = subst (λ (m : ℕ). Within (suc at) m (child_places d (suc at) es)) n (places_within d (suc at) es) in
    let all : Within at high (child_places d (suc at) es) = within_more at (suc at) high (child_places d (suc at) es) (omega arith) on in
    elim (leb e.depth d) as (λ b. Within at high (cond b [] (cond (eqb e.depth (suc d)) (at ∷ child_places d (suc at) es) (child_places d (suc at) es)))) [
      | true ↦ (λ k lt. absurd (omega arith))
      | false ↦ elim (eqb e.depth (suc d)) as (λ b. Within at high (cond b (at ∷ child_places d (suc at) es) (child_places d (suc at) es))) [
        | true ↦ within_first at high (child_places d (suc at) es) (omega arith) all
        | false ↦ all
      ]
    ]

-- ---- numbers in lists

occ_same : (j n : ℕ) (ns : List ℕ) → n ≡ j → occurrences j (n ∷ ns) ≡ suc (occurrences j ns)
occ_same j n ns same = rw (eq-eqb n j same) (omega arith)

occ_other : (j n : ℕ) (ns : List ℕ) → (n ≡ j → ⊥) → occurrences j (n ∷ ns) ≡ occurrences j ns
occ_other j n ns other = rw (ne_eqb n j other) (omega arith)

occ_more : (j n : ℕ) (ns : List ℕ) → occurrences j ns ≤ occurrences j (n ∷ ns)
occ_more j n ns = elim (cases_eq n j) [
  | inl same ↦ omega (arith, occ_same j n ns same)
  | inr other ↦ omega (arith, occ_other j n ns other)
]

stands_some : (j : ℕ) (ns : List ℕ) → 0 < occurrences j ns → (k : ℕ) × StandsAt j ns k
stands_some j [] h = absurd (omega arith)
stands_some j (n ∷ ns) h =
    elim (cases_eq n j) [
      | inl same ↦ (0, (omega arith, same))
      | inr other ↦ (let on = stands_some j ns (omega (arith, h, occ_other j n ns other)) in (suc on.0, (omega (arith, on.1.0), on.1.1)))
    ]

stands_counts : (j : ℕ) (ns : List ℕ) (k : ℕ) → StandsAt j ns k → 0 < occurrences j ns
stands_counts j [] k h = absurd (omega (arith, h.0))
stands_counts j (n ∷ ns) zero h = omega (arith, occ_same j n ns h.1)
stands_counts j (n ∷ ns) (suc k) h = omega (arith, occ_more j n ns, stands_counts j ns k (omega (arith, h.0), h.1))

stands_twice : (j : ℕ) (ns : List ℕ) (k l : ℕ) → k < l → StandsAt j ns k → StandsAt j ns l → 1 < occurrences j ns
stands_twice j [] k l lt h g = absurd (omega (arith, h.0))
stands_twice j (n ∷ ns) k zero lt h g = absurd (omega arith)
stands_twice j (n ∷ ns) zero (suc l) lt h g = omega (arith, occ_same j n ns h.1, stands_counts j ns l (omega (arith, g.0), g.1))
stands_twice j (n ∷ ns) (suc k) (suc l) lt h g =
    omega (arith, occ_more j n ns, stands_twice j ns k l (omega arith) (omega (arith, h.0), h.1) (omega (arith, g.0), g.1))

stands_once : (j : ℕ) (ns : List ℕ) (k l : ℕ) → occurrences j ns ≤ 1 → StandsAt j ns k → StandsAt j ns l → k ≡ l
stands_once j ns k l le h g = elim (cases_eq k l) [
  | inl same ↦ same
  | inr other ↦ elim (cases_lt k l) [
    | inl lt ↦ absurd (omega (arith, stands_twice j ns k l lt h g))
    | inr ge ↦ absurd (omega (arith, stands_twice j ns l k (omega arith) g h))
  ]
]

-- ---- the children of one entry among those of all

abbrev own : ℕ → ℕ → Entry → List Entry → List ℕ
own at before e later = child_places e.depth (suc (at + before)) later

own_shift : (at : ℕ) (front : List Entry) (x e : Entry) (later : List Entry) → own (suc at) (length front) e later ≡ own at (length (x ∷ front)) e later
own_shift at front x e later = let n : suc at + length front ≡ at + length (x ∷ front) = omega arith in ap (λ (m : ℕ). child_places e.depth (suc m) later) n

own_first : (at : ℕ) (e : Entry) (later : List Entry) → child_places e.depth (suc at) later ≡ own at 0 e later
own_first at e later = let n : at ≡ at + 0 = omega arith in ap (λ (m : ℕ). child_places e.depth (suc m) later) n

record Parent (j at : ℕ) (es : List Entry) : Type 0 where
  pub front : List Entry
  pub entry : Entry
  pub later : List Entry
  pub stands : es ≡ front ++ entry ∷ later
  pub at_child : ℕ
  pub child : StandsAt j (own at (length front) entry later) at_child

parent : (j at : ℕ) (es : List Entry) → 0 < occurrences j (all_places at es) → Parent j at es
parent j at [] h = absurd (omega arith)
parent j at (e ∷ es) h =
    let mine : List ℕ = child_places e.depth (suc at) es in
    let both = occ-append j mine (all_places (suc at) es) in
    elim (cases_lt 0 (occurrences j mine)) [
      | inl some ↦ (let k = stands_some j mine some in
          record { front = []; entry = e; later = es; stands = refl; at_child = k.0; child = subst (λ (ns : List ℕ). StandsAt j ns k.0) (own_first at e es) k.1 })
      | inr none ↦ (let p = parent j (suc at) es (omega (arith, h, both)) in
          record {
            front = e ∷ p.front;
            entry = p.entry;
            later = p.later;
            stands = ap (λ (l : List Entry). e ∷ l) p.stands;
            at_child = p.at_child;
            child = subst (λ (ns : List ℕ). StandsAt j ns p.at_child) (own_shift at p.front e p.entry p.later) p.child;
          })
    ]

own_counts : (j at : ℕ) (es f : List Entry) (a : Entry) (l : List Entry) → es ≡ f ++ a ∷ l → occurrences j (own at (length f) a l) ≤ occurrences j (all_places at es)
own_counts j at [] [] a l is = absurd cc
own_counts j at [] (x ∷ f) a l is = absurd cc
own_counts j at (e ∷ es) [] a l is =
    let same : e ≡ a = cc is in let rest : es ≡ l = cc is in
    let mine : child_places e.depth (suc at) es ≡ own at 0 a l = ap (λ (x : Entry). child_places x.depth (suc at) es) same ∙ ap (λ (m : List Entry). child_places a.depth (suc at) m) rest ∙ own_first at a l in
    omega (arith, ap (occurrences j) mine, occ-append j (child_places e.depth (suc at) es) (all_places (suc at) es))
own_counts j at (e ∷ es) (x ∷ f) a l is =
    let rest : es ≡ f ++ a ∷ l = cc is in
    omega (arith, ap (occurrences j) (own_shift at f x a l), own_counts j (suc at) es f a l rest, occ-append j (child_places e.depth (suc at) es) (all_places (suc at) es))

two_count : (j at : ℕ) (es f g : List Entry) (a b : Entry) (l m : List Entry) → es ≡ f ++ a ∷ l → es ≡ g ++ b ∷ m → length f < length g
    → occurrences j (own at (length f) a l) + occurrences j (own at (length g) b m) ≤ occurrences j (all_places at es)
two_count j at [] [] g a b l m is is2 lt = absurd cc
two_count j at [] (x ∷ f) g a b l m is is2 lt = absurd cc
two_count j at (e ∷ es) f [] a b l m is is2 lt = absurd (omega arith)
two_count j at (e ∷ es) [] (y ∷ g) a b l m is is2 lt =
    let same : e ≡ a = cc is in let rest : es ≡ l = cc is in let rest2 : es ≡ g ++ b ∷ m = cc is2 in
    let mine : child_places e.depth (suc at) es ≡ own at 0 a l = ap (λ (x : Entry). child_places x.depth (suc at) es) same ∙ ap (λ (k : List Entry). child_places a.depth (suc at) k) rest ∙ own_first at a l in
    omega (arith, ap (occurrences j) mine, ap (occurrences j) (own_shift at g y b m), own_counts j (suc at) es g b m rest2, occ-append j (child_places e.depth (suc at) es) (all_places (suc at) es))
two_count j at (e ∷ es) (x ∷ f) (y ∷ g) a b l m is is2 lt =
    let rest : es ≡ f ++ a ∷ l = cc is in let rest2 : es ≡ g ++ b ∷ m = cc is2 in
    omega (arith, ap (occurrences j) (own_shift at f x a l), ap (occurrences j) (own_shift at g y b m), two_count j (suc at) es f g a b l m rest rest2 (omega arith), occ-append j (child_places e.depth (suc at) es) (all_places (suc at) es))

-- ---- one to one

-- two ways to write a list as some, one and the rest, the first as long
same_split : (es f g : List Entry) (a b : Entry) (l m : List Entry) → es ≡ f ++ a ∷ l → es ≡ g ++ b ∷ m → f ≡ g → (a ≡ b) × (l ≡ m)
same_split es f g a b l m is is2 fg =
    let both : f ++ a ∷ l ≡ f ++ b ∷ m = sym is ∙ is2 ∙ ap (λ (h : List Entry). h ++ b ∷ m) (sym fg) in
    let tails : a ∷ l ≡ b ∷ m = append_cancel_left f (a ∷ l) (b ∷ m) both in
    (cc tails, cc tails)

same_length : (es f g : List Entry) (a b : Entry) (l m : List Entry) → es ≡ f ++ a ∷ l → es ≡ g ++ b ∷ m → length f ≡ length g → f ≡ g
same_length [] [] g a b l m is is2 n = absurd cc
same_length [] (x ∷ f) g a b l m is is2 n = absurd cc
same_length (e ∷ es) [] [] a b l m is is2 n = refl
same_length (e ∷ es) [] (y ∷ g) a b l m is is2 n = absurd (omega arith)
same_length (e ∷ es) (x ∷ f) [] a b l m is is2 n = absurd (omega arith)
same_length (e ∷ es) (x ∷ f) (y ∷ g) a b l m is is2 n =
    let one : e ≡ x = cc is in let two : e ≡ y = cc is2 in
    let rest : es ≡ f ++ a ∷ l = cc is in let rest2 : es ≡ g ++ b ∷ m = cc is2 in
    ap (λ (z : Entry). z ∷ f) (sym one ∙ two) ∙ ap (λ (h : List Entry). y ∷ h) (same_length es f g a b l m rest rest2 (omega arith))

child_counts : (es : List Entry) (n k j : ℕ) (p : IsChildPlace es n k j) → StandsAt j (own 0 (length p.front) p.entry p.later) k
child_counts es n k j p =
    let c : ℕ = length p.front in
    let z : c ≡ 0 + c = omega arith in
    subst (λ (m : ℕ). StandsAt j (child_places p.entry.depth (suc m) p.later) k) z p.child

only_edge : (es : List Entry) (j : ℕ) → occurrences j (all_places 0 es) ≤ 1 → (m n k l : ℕ) → IsChildPlace es m k j → IsChildPlace es n l j → (m ≡ n) × (k ≡ l)
only_edge es j le m n k l p q =
    let a = child_counts es m k j p in let b = child_counts es n l j q in
    let some = stands_counts j _ k a in let some2 = stands_counts j _ l b in
    elim (cases_eq (length p.front) (length q.front)) [
      | inl same ↦ (let fg = same_length es p.front q.front p.entry q.entry p.later q.later p.first.stands q.first.stands same in
          let parts = same_split es p.front q.front p.entry q.entry p.later q.later p.first.stands q.first.stands fg in
          let lists : own 0 (length q.front) q.entry q.later ≡ own 0 (length p.front) p.entry p.later =
          ap (λ (c : ℕ). own 0 c q.entry q.later) (sym same) ∙ ap (λ (e : Entry). own 0 (length p.front) e q.later) (sym parts.0) ∙ ap (λ (r : List Entry). own 0 (length p.front) p.entry r) (sym parts.1) in
          let once : occurrences j (own 0 (length p.front) p.entry p.later) ≤ 1 = omega (arith, le, own_counts j 0 es p.front p.entry p.later p.first.stands) in (
            sym p.first.node ∙ ap (λ (e : Entry). e.node) parts.0 ∙ q.first.node,
            stands_once j (own 0 (length p.front) p.entry p.later) k l once a (subst (λ (ns : List ℕ). StandsAt j ns l) lists b),
          ))
      | inr other ↦ elim (cases_lt (length p.front) (length q.front)) [
        | inl lt ↦ absurd (omega (arith, le, some, some2, two_count j 0 es p.front q.front p.entry q.entry p.later q.later p.first.stands q.first.stands lt))
        | inr ge ↦ absurd (omega (arith, le, some, some2, two_count j 0 es q.front p.front q.entry p.entry q.later p.later q.first.stands p.first.stands (omega arith)))
      ]
    ]

only_child : (es : List Entry) (n k i j : ℕ) → IsChildPlace es n k i → IsChildPlace es n k j → i ≡ j
only_child es n k i j p q =
    let fg = one_first n es p.front q.front p.entry q.entry p.later q.later p.first q.first in
    let parts = same_split es p.front q.front p.entry q.entry p.later q.later p.first.stands q.first.stands fg in
    let lists : child_places p.entry.depth (suc (length p.front)) p.later ≡ child_places q.entry.depth (suc (length q.front)) q.later =
    ap (λ (f : List Entry). child_places p.entry.depth (suc (length f)) p.later) fg ∙ ap (λ (e : Entry). child_places e.depth (suc (length q.front)) p.later) parts.0 ∙ ap (λ (r : List Entry). child_places q.entry.depth (suc (length q.front)) r) parts.1 in
    sym p.child.1 ∙ ap (λ (ns : List ℕ). get_or ns k 0) lists ∙ q.child.1

-- ---- the children of an expanded entry

occurs_at : (es front : List Entry) (e : Entry) (later : List Entry) → es ≡ front ++ e ∷ later → Occurs e.node es
occurs_at [] [] e later is = absurd cc
occurs_at [] (x ∷ front) e later is = absurd cc
occurs_at (x ∷ es) [] e later is = let same : e ≡ x = sym cc is in or_left (eqb e.node x.node) (is_one_of e.node (nodes_of es)) (eq-eqb e.node x.node (ap (λ (y : Entry). y.node) same))
occurs_at (x ∷ es) (y ∷ front) e later is = let rest : es ≡ front ++ e ∷ later = cc is in or_right (eqb e.node x.node) (is_one_of e.node (nodes_of es)) (occurs_at es front e later rest)

length-places : (d at : ℕ) (es : List Entry) → length (child_places d at es) ≡ length (children d es)
length-places d at [] = refl
length-places d at (e ∷ es) =
    elim (leb e.depth d) as (λ b. length (cond b [] (cond (eqb e.depth (suc d)) (at ∷ child_places d (suc at) es) (child_places d (suc at) es))) ≡ length (cond b [] (cond (eqb e.depth (suc d)) (e.node ∷ children d es) (children d es)))) [
      | true ↦ refl
      | false ↦ elim (eqb e.depth (suc d)) as (λ b. length (cond b (at ∷ child_places d (suc at) es) (child_places d (suc at) es)) ≡ length (cond b (e.node ∷ children d es) (children d es))) [
        | true ↦ ap suc (length-places d (suc at) es)
        | false ↦ length-places d (suc at) es
      ]
    ]

-- the node of the child of a number
child_node : (es front : List Entry) (e : Entry) (later : List Entry) (k : ℕ) → es ≡ front ++ e ∷ later → k < length (children e.depth later)
    → node_at es (get_or (child_places e.depth (suc (length front)) later) k 0) ≡ get_or (children e.depth later) k 0
child_node es front e later k is lt =
    let next : List Entry = front ++ e ∷ [] in
    let n : length next ≡ suc (length front) = omega (arith, length-append front (e ∷ [])) in
    let all : next ++ later ≡ es = append_assoc front (e ∷ []) later ∙ sym is in
    let places : List ℕ = child_places e.depth (suc (length front)) later in
    let nodes : map (node_at es) places ≡ children e.depth later =
    subst (λ (l : List Entry). Nodes l e.depth (suc (length front)) later) all (subst (λ (m : ℕ). Nodes (next ++ later) e.depth m later) n (places_nodes e.depth next later)) in
    sym (get_or-map (node_at es) places k 0 0 (omega (arith, length-places e.depth (suc (length front)) later))) ∙ ap (λ (ns : List ℕ). get_or ns k 0) nodes

expands : (far : ℕ → List ℕ) (start : ℕ) (es : List Entry) → IsDrawing far start es → (n : ℕ) (front : List Entry) (e : Entry) (later : List Entry) → IsFirst n es front e later → children e.depth later ≡ far n
expands far start es d n front e later f =
    d.expanded front later e f.stands (subst (λ (k : ℕ). is_one_of k (nodes_of front) ≡ false) (sym f.node) f.new) ∙ ap far f.node

-- an entry with children is the first of its node
first_with_child : (far : ℕ → List ℕ) (start : ℕ) (es : List Entry) → IsDrawing far start es → (front : List Entry) (e : Entry) (later : List Entry) → es ≡ front ++ e ∷ later → 0 < length (children e.depth later) → IsFirst e.node es front e later
first_with_child far start es d front e later is some =
    elim (cases_Bool (is_one_of e.node (nodes_of front))) [
      | inl again ↦ absurd (omega (arith, some, ap length (d.again front later e is again)))
      | inr new ↦ record { stands = is; node = refl; new = new }
    ]

pub edges_match : (far : ℕ → List ℕ) (start : ℕ) (es : List Entry) → IsDrawing far start es → EdgesMatchEntries far start es
edges_match far start es d =
    let steps = from_words far start es d in
    let once : (j : ℕ) → occurrences j (all_places 0 es) ≤ 1 = λ j. at_most_one far start es j steps in
    record {
      child = λ n k r lt. (
          let f = first_of n es (reachable_occurs far start es n steps r) in
          let kids = expands far start es d n f.0 f.1 f.2 f.3 in
          let some : k < length (children f.1.depth f.2) = omega (arith, lt, ap length kids) in
          let places : List ℕ = child_places f.1.depth (suc (length f.0)) f.2 in
          let in' : k < length places = omega (arith, some, length-places f.1.depth (suc (length f.0)) f.2) in
          let within = places_within f.1.depth (suc (length f.0)) f.2 k in' in
          let long : length es ≡ length f.0 + suc (length f.2) = ap length f.3.stands ∙ length-append f.0 (f.1 ∷ f.2) in (
            get_or places k 0,
            record { front = f.0; entry = f.1; later = f.2; first = f.3; child = (in', refl) },
            omega (arith, within.0),
            omega (arith, within.1, long),
            child_node es f.0 f.1 f.2 k f.3.stands some ∙ ap (λ (ns : List ℕ). get_or ns k 0) kids,
          ));
      edge = λ j more lt. (
          let one = one_parent far start es j steps more lt in
          let p = parent j 0 es (omega (arith, one)) in
          let z : 0 + length p.front ≡ length p.front = omega arith in
          let child : StandsAt j (child_places p.entry.depth (suc (length p.front)) p.later) p.at_child = subst (λ (m : ℕ). StandsAt j (child_places p.entry.depth (suc m) p.later) p.at_child) z p.child in
          let some : p.at_child < length (children p.entry.depth p.later) = omega (arith, child.0, length-places p.entry.depth (suc (length p.front)) p.later) in
          let f = first_with_child far start es d p.front p.entry p.later p.stands (omega (arith, some)) in
          let kids = expands far start es d p.entry.node p.front p.entry p.later f in (
            p.entry.node,
            p.at_child,
            occurs_reachable far start es p.entry.node steps (occurs_at es p.front p.entry p.later p.stands),
            omega (arith, some, ap length kids),
            record { front = p.front; entry = p.entry; later = p.later; first = f; child = child },
          ));
      one_edge = λ m n k l j p q. only_edge es j (once j) m n k l p q;
      one_child = λ n k i j p q. only_child es n k i j p q;
    }
