-- What is still to come at each level of a walk.
use Rattle.std.proofs.Common.{◌≡◌, ℕ, zero, suc, ◌+◌, ◌<◌, ◌≤◌, Bool, true, List, [], ◌∷◌, ◌++◌, length, get_or, set, refl, le_refl, sym, ap, subst, ◌∙◌, append_assoc, arith, inl, inr}
use Rattle.std.proofs.lemmas.Bool.{cases_Bool, cases_order}
use Rattle.std.proofs.lemmas.List.{append-nil}
use Rattle.std.proofs.lemmas.Option.{slice_get_cases}
use Rattle.cargo_lock_graph.specs.declared.drawing.entry.Entry.{Entry}
use Rattle.cargo_lock_graph.specs.declared.graph.EdgeDirection.{EdgeDirection}
use Rattle.cargo_lock_graph.specs.Edges.{Edge, edge_and_older, far_end, far_ends, far_ends_from}
use Rattle.cargo_lock_graph.specs.DrawingByLater.{is_any}
use Rattle.std.specs.Prelude.{IfSome, Option, Some, None, is_some, map, take}
use Rattle.cargo_lock_graph.specs.Drawing.{children}
use Rattle.cargo_lock_graph.specs.DrawingMade.{entries_below, rest_of}
use Rattle.cargo_lock_graph.specs.WalkState.{entries_waiting, entries_to_come}
use Rattle.cargo_lock_graph.proofs.DrawingRest.{at_level, Falls, entries_below-falls, falls_on, level-append, level-same, level-other, level-above, level-new, level-here, level-past, children-stop, children-here, children-past}
use Rattle.cargo_lock_graph.proofs.DrawingMade.{rest-seen, rest-new, rest-end}

-- one entry, and what is known of the rest
waits_back : (f : Entry) (p es : List Entry) (ns : List ℕ) (limit : ℕ) → Falls limit (f ∷ p) → ((d : ℕ) → children d es ≡ at_level (suc d) (entries_below (suc f.depth) ns ++ p)) → (k : ℕ) → children k (f ∷ es) ≡ at_level (suc k) (f ∷ p)
waits_back f p es ns limit h w k = elim (cases_order (suc k) f.depth) [
  | inl eq ↦ children-here k f es (sym eq) ∙ ap (λ (ms : List ℕ). f.node ∷ ms) (w k ∙ level-new (suc k) f.depth ns p (λ x. omega arith)) ∙ sym (level-here (suc k) f p (sym eq))
  | inr (inl lt) ↦ children-past k f es lt ∙ w k ∙ level-new (suc k) f.depth ns p (λ x. omega arith) ∙ sym (level-past (suc k) f p (λ x. omega arith))
  | inr (inr gt) ↦ children-stop k f es (omega arith) ∙ sym (level-above (suc k) f.depth (f ∷ p) (h.0, le_refl f.depth, h.2) gt)
]

waits_made : (far : ℕ → List ℕ) (es : List Entry) (marks : List Bool) (limit : ℕ) (p : List Entry) → Falls limit p → rest_of far marks p ≡ es → (d : ℕ) → children d es ≡ at_level (suc d) p
waits_made far [] marks limit [] h made d = refl
waits_made far [] marks limit (e ∷ p) h made d =
    elim (cases_Bool (get_or marks e.node true)) [
      | inl t ↦ (let w = sym (rest-seen far marks e p t) ∙ made in absurd cc)
      | inr f ↦ (let w = sym (rest-new far marks e p f) ∙ made in absurd cc)
    ]
waits_made far (x ∷ es) marks limit [] h made d = let w = sym (rest-end far marks) ∙ made in absurd cc
waits_made far (x ∷ es) marks limit (e ∷ p) h made d =
    elim (cases_Bool (get_or marks e.node true)) [
      | inl t ↦ (let w = sym (rest-seen far marks e p t) ∙ made in
          let same : e ≡ x = cc w in let tail : rest_of far marks p ≡ es = cc w in
          subst (λ (y : Entry). children d (y ∷ es) ≡ at_level (suc d) (e ∷ p)) same (waits_back e p es [] limit h (waits_made far es marks e.depth p h.2 tail) d))
      | inr f ↦ (let w = sym (rest-new far marks e p f) ∙ made in
          let same : e ≡ x = cc w in let tail : rest_of far (set marks e.node true) (entries_below (suc e.depth) (far e.node) ++ p) ≡ es = cc w in
          subst (λ (y : Entry). children d (y ∷ es) ≡ at_level (suc d) (e ∷ p)) same (waits_back e p es (far e.node) limit h (waits_made far es (set marks e.node true) (suc e.depth) (entries_below (suc e.depth) (far e.node) ++ p) (falls_on limit e p (far e.node) h) tail) d))
    ]

falls_waiting : (d : EdgeDirection) (edges : List Edge) (depth : ℕ) (fs : List (Option ℕ)) (q : List Entry) → Falls depth q → Falls (depth + length fs) (entries_waiting d edges depth fs ++ q)
falls_waiting d edges depth [] q h = let n : depth ≡ depth + 0 = omega arith in subst (λ (k : ℕ). Falls k q) n h
falls_waiting d edges depth (f ∷ fs) q h =
    let n : suc depth + length fs ≡ depth + suc (length fs) = omega arith in
    let own = entries_below (suc depth) (far_ends_from d edges f) in
    subst (λ (k : ℕ). Falls k ((entries_waiting d edges (suc depth) fs ++ own) ++ q)) n
    (subst (λ (p : List Entry). Falls (suc depth + length fs) p) (sym (append_assoc (entries_waiting d edges (suc depth) fs) own q)) (falls_waiting d edges (suc depth) fs (own ++ q) (entries_below-falls depth (far_ends_from d edges f) q h)))

level_waiting_other : (d : EdgeDirection) (edges : List Edge) (depth j : ℕ) (fs : List (Option ℕ)) → j ≤ depth → at_level j (entries_waiting d edges depth fs) ≡ []
level_waiting_other d edges depth j [] le = refl
level_waiting_other d edges depth j (f ∷ fs) le =
    level-append j (entries_waiting d edges (suc depth) fs) (entries_below (suc depth) (far_ends_from d edges f))
    ∙ ap (λ (ns : List ℕ). ns ++ at_level j (entries_below (suc depth) (far_ends_from d edges f))) (level_waiting_other d edges (suc depth) j fs (omega arith))
    ∙ level-other j (suc depth) (far_ends_from d edges f) (λ x. omega arith)

level_waiting : (d : EdgeDirection) (edges : List Edge) (depth k : ℕ) (fs : List (Option ℕ)) (x : Option ℕ) → k < length fs → at_level (suc (depth + k)) (entries_waiting d edges depth fs) ≡ far_ends_from d edges (get_or fs k x)
level_waiting d edges depth k [] x lt = absurd (omega arith)
level_waiting d edges depth zero (f ∷ fs) x lt =
    let n : suc (depth + 0) ≡ suc depth = omega arith in
    ap (λ (j : ℕ). at_level j (entries_waiting d edges depth (f ∷ fs))) n
    ∙ level-append (suc depth) (entries_waiting d edges (suc depth) fs) (entries_below (suc depth) (far_ends_from d edges f))
    ∙ ap (λ (ns : List ℕ). ns ++ at_level (suc depth) (entries_below (suc depth) (far_ends_from d edges f))) (level_waiting_other d edges (suc depth) (suc depth) fs (le_refl (suc depth)))
    ∙ level-same (suc depth) (far_ends_from d edges f)
level_waiting d edges depth (suc k) (f ∷ fs) x lt =
    let n : suc (depth + suc k) ≡ suc (suc depth + k) = omega arith in
    let own = entries_below (suc depth) (far_ends_from d edges f) in
    ap (λ (j : ℕ). at_level j (entries_waiting d edges depth (f ∷ fs))) n
    ∙ level-append (suc (suc depth + k)) (entries_waiting d edges (suc depth) fs) own
    ∙ ap (λ (ns : List ℕ). at_level (suc (suc depth + k)) (entries_waiting d edges (suc depth) fs) ++ ns) (level-other (suc (suc depth + k)) (suc depth) (far_ends_from d edges f) (λ y. omega arith))
    ∙ append-nil (at_level (suc (suc depth + k)) (entries_waiting d edges (suc depth) fs))
    ∙ level_waiting d edges (suc depth) k fs x (omega arith)

pub coming_children : (d : EdgeDirection) (edges : List Edge) (marks : List Bool) (fs : List (Option ℕ)) (k : ℕ) (x : Option ℕ) → k < length fs → children k (entries_to_come d edges marks fs) ≡ far_ends_from d edges (get_or fs k x)
unfolding entries_to_come
coming_children d edges marks fs k x lt =
    let falls : Falls (0 + length fs) (entries_waiting d edges 0 fs) = subst (λ (p : List Entry). Falls (0 + length fs) p) (append-nil (entries_waiting d edges 0 fs)) (falls_waiting d edges 0 fs [] tt) in
    let n : suc k ≡ suc (0 + k) = omega arith in
    waits_made (far_ends d edges) (rest_of (far_ends d edges) marks (entries_waiting d edges 0 fs)) marks (0 + length fs) (entries_waiting d edges 0 fs) falls refl k
    ∙ ap (λ (j : ℕ). at_level j (entries_waiting d edges 0 fs)) n ∙ level_waiting d edges 0 k fs x lt

-- an edge is left where there is a far end
pub any_ends : (d : EdgeDirection) (edges : List Edge) (f : Option ℕ) → IfSome f (λ edge. edge < length edges) → is_some f ≡ is_any (far_ends_from d edges f)
any_ends d edges None known = refl
any_ends d edges (Some i) known =
    elim (slice_get_cases edges i).1 [
      | inl there ↦ ap (λ (o : Option Edge). is_any (map (far_end d) (edge_and_older d (take i edges) o))) (sym there.2)
      | inr out ↦ absurd (omega (arith, out.0))
    ]
