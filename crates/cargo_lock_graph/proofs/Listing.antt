-- Lists that are made of what an iterator gives.
use Rattle.std.proofs.Common.{◌≡◌, ◌∙◌, ◌≤◌, ℕ, List, [], ◌∷◌, ◌++◌, ap, append_assoc, arith, length, map, not, refl, sym}
use Rattle.std.proofs.lemmas.List.{append-nil, length-reverse}
use Rattle.std.proofs.lemmas.List.Filters.{length-filter_both}
use Rattle.std.specs.List.{filter}
use Rattle.cargo_lock_graph.specs.declared.graph.EdgeDirection.{EdgeDirection}
use Rattle.cargo_lock_graph.specs.Edges.{Edge, edges_at, is_at}

-- one more item of a list, and one less that is left
pub listed-more : {A B : Type 0} (f : A → B) (made new whole : List B) (left rest : List A) (x : A) (y : B) → left ≡ x ∷ rest → y ≡ f x → new ≡ made ++ y ∷ [] → made ++ map f left ≡ whole → new ++ map f rest ≡ whole
listed-more f made new whole left rest x y is same pushed so_far =
    ap (λ ys. ys ++ map f rest) (pushed ∙ ap (λ z. made ++ z ∷ []) same) ∙ append_assoc made (f x ∷ []) (map f rest)
    ∙ ap (λ xs. made ++ map f xs) (sym is) ∙ so_far

-- no item is made yet
pub listed-none : {A B : Type 0} (f : A → B) (made whole : List B) (left : List A) → made ≡ [] → map f left ≡ whole → made ++ map f left ≡ whole
listed-none f made whole left none is = ap (λ ys. ys ++ map f left) none ∙ is

-- no item is left
pub listed-all : {A B : Type 0} (f : A → B) (made whole : List B) (left : List A) → left ≡ [] → made ++ map f left ≡ whole → made ≡ whole
listed-all f made whole left none so_far =
    sym (append-nil made) ∙ ap (λ xs. made ++ map f xs) (sym none) ∙ so_far

-- there are no more edges at a node than edges
pub edges-short : (d : EdgeDirection) (edges : List Edge) (node : ℕ) → length (edges_at d edges node) ≤ length edges
edges-short d edges node =
    let kept = length-filter_both (is_at d node) (λ e. not (is_at d node e)) (λ e. refl) edges in
    omega (arith, kept, length-reverse (filter (is_at d node) edges))
