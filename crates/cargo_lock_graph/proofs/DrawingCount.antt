-- One more entry than edges that leave what occurs.
use Rattle.std.proofs.Common.{◌≡◌, ℕ, suc, ◌+◌, Bool, true, false, not, ◌&&◌, ◌||◌, cond, eqb, List, [], ◌∷◌, length, refl, sym, ap, ◌∙◌, arith, inl, inr}
use Rattle.std.specs.List.{filter}
use Rattle.std.proofs.lemmas.Bool.{cases_Bool, eqb-true}
use Rattle.std.proofs.lemmas.List.{length-map, length-reverse}
use Rattle.cargo_lock_graph.specs.declared.graph.EdgeDirection.{EdgeDirection}
use Rattle.cargo_lock_graph.specs.declared.drawing.entry.Entry.{Entry}
use Rattle.cargo_lock_graph.specs.Drawing.{is_one_of, nodes_of}
use Rattle.cargo_lock_graph.specs.DrawingPlaces.{children_count}
use Rattle.cargo_lock_graph.specs.DrawingSteps.{children_after, DrawsFrom}
use Rattle.cargo_lock_graph.specs.Edges.{Edge, near_end, far_end, far_ends, edges_at, is_at}
use Rattle.cargo_lock_graph.proofs.DrawingReach.{length_drawing}

-- how many of the edges leave a node that passes the test
abbrev leaving : EdgeDirection → (ℕ → Bool) → List Edge → ℕ
leaving d test [] = 0
leaving d test (e ∷ edges) = cond (test (near_end d e)) 1 0 + leaving d test edges

leaving_split : (d : EdgeDirection) (p q r : ℕ → Bool) → ((m : ℕ) → cond (p m) 1 0 ≡ cond (q m) 1 0 + cond (r m) 1 0) → (edges : List Edge) → leaving d p edges ≡ leaving d q edges + leaving d r edges
leaving_split d p q r h [] = refl
leaving_split d p q r h (e ∷ edges) = omega (arith, h (near_end d e), leaving_split d p q r h edges)

leaving_none : (d : EdgeDirection) (p : ℕ → Bool) → ((m : ℕ) → p m ≡ false) → (edges : List Edge) → leaving d p edges ≡ 0
leaving_none d p h [] = refl
leaving_none d p h (e ∷ edges) = rw (h (near_end d e)) (omega (arith, leaving_none d p h edges))

leaving_same : (d : EdgeDirection) (p q : ℕ → Bool) → ((m : ℕ) → p m ≡ q m) → (edges : List Edge) → leaving d p edges ≡ leaving d q edges
leaving_same d p q h [] = refl
leaving_same d p q h (e ∷ edges) = rw (h (near_end d e)) (omega (arith, leaving_same d p q h edges))

length-kept : (d : EdgeDirection) (n : ℕ) (edges : List Edge) → length (filter (is_at d n) edges) ≡ leaving d (λ m. eqb m n) edges
length-kept d n [] = refl
length-kept d n (e ∷ edges) =
    elim (cases_Bool (eqb (near_end d e) n)) [
      | inl t ↦ rw t (omega (arith, length-kept d n edges))
      | inr f ↦ rw f (omega (arith, length-kept d n edges))
    ]

length-far : (d : EdgeDirection) (n : ℕ) (edges : List Edge) → length (far_ends d edges n) ≡ leaving d (λ m. eqb m n) edges
length-far d n edges = length-map (edges_at d edges n) (far_end d) ∙ length-reverse (filter (is_at d n) edges) ∙ length-kept d n edges

-- of one node: it is this one, it comes later, it came before, this one came before
bools : (this later before same : Bool) → (this ≡ true → same ≡ before) → cond ((this || later) && not before) 1 0 ≡ cond (later && not (this || before)) 1 0 + cond (cond same false this) 1 0
bools true true true true h = refl
bools true true true false h = absurd (let w = h refl in cc)
bools true true false true h = absurd (let w = h refl in cc)
bools true true false false h = refl
bools true false true true h = refl
bools true false true false h = absurd (let w = h refl in cc)
bools true false false true h = absurd (let w = h refl in cc)
bools true false false false h = refl
bools false true true true h = refl
bools false true true false h = refl
bools false true false true h = refl
bools false true false false h = refl
bools false false true true h = refl
bools false false true false h = refl
bools false false false true h = refl
bools false false false false h = refl

abbrev fresh : List ℕ → List ℕ → ℕ → Bool
fresh nodes earlier m = is_one_of m nodes && not (is_one_of m earlier)

children_leaving : (d : EdgeDirection) (edges : List Edge) (es : List Entry) (earlier : List ℕ) → children_count (far_ends d edges) earlier es ≡ leaving d (fresh (nodes_of es) earlier) edges
children_leaving d edges [] earlier = sym (leaving_none d (fresh [] earlier) (λ m. refl) edges)
children_leaving d edges (e ∷ es) earlier =
    let n : ℕ = e.node in
    let own : ℕ → Bool = λ m. cond (is_one_of n earlier) false (eqb m n) in
    let split = leaving_split d (fresh (n ∷ nodes_of es) earlier) (fresh (nodes_of es) (n ∷ earlier)) own (λ m. bools (eqb m n) (is_one_of m (nodes_of es)) (is_one_of m earlier) (is_one_of n earlier) (λ same. ap (λ (k : ℕ). is_one_of k earlier) (sym (eqb-true m n same)))) edges in
    let mine : length (children_after (far_ends d edges) earlier n) ≡ leaving d own edges = elim (cases_Bool (is_one_of n earlier)) [
      | inl t ↦ rw t (sym (leaving_none d (λ m. false) (λ m. refl) edges))
      | inr f ↦ rw f (length-far d n edges)
    ] in
    omega (arith, split, mine, children_leaving d edges es (n ∷ earlier))

keep_all : (b : Bool) → (b && true) ≡ b
keep_all true = refl
keep_all false = refl

entries_leaving : (d : EdgeDirection) (edges : List Edge) (start : ℕ) (es : List Entry) → DrawsFrom (far_ends d edges) start es → length es ≡ suc (leaving d (λ n. is_one_of n (nodes_of es)) edges)
entries_leaving d edges start es h =
    length_drawing (far_ends d edges) start es h ∙ ap suc (children_leaving d edges es [] ∙ leaving_same d (fresh (nodes_of es) []) (λ n. is_one_of n (nodes_of es)) (λ m. keep_all (is_one_of m (nodes_of es))) edges)

leaving_filter : (d : EdgeDirection) (test : ℕ → Bool) (edges : List Edge) → leaving d test edges ≡ length (filter (λ (e : Edge). test (near_end d e)) edges)
leaving_filter d test [] = refl
leaving_filter d test (e ∷ edges) =
    elim (cases_Bool (test (near_end d e))) [
      | inl t ↦ rw t (omega (arith, leaving_filter d test edges))
      | inr f ↦ rw f (omega (arith, leaving_filter d test edges))
    ]

pub entries_counted : (d : EdgeDirection) (edges : List Edge) (start : ℕ) (es : List Entry) → DrawsFrom (far_ends d edges) start es → length es ≡ suc (length (filter (λ (e : Edge). is_one_of (near_end d e) (nodes_of es)) edges))
entries_counted d edges start es h = entries_leaving d edges start es h ∙ ap suc (leaving_filter d (λ n. is_one_of n (nodes_of es)) edges)
