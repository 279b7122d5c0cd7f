-- The edges of one more node.
use Rattle.std.proofs.Common.{◌≡◌, ◌∙◌, ℕ, suc, zero, ◌+◌, List, [], ◌∷◌, ◌++◌, ap, arith}
use Rattle.std.specs.List.{flat_map, range_with_len}
use Rattle.std.proofs.lemmas.Grind.{flat_map-append}
use Rattle.std.proofs.lemmas.List.{append-nil}
use Rattle.cargo_lock_graph.specs.Edges.{Edge}
use Rattle.cargo_lock_c.specs.declared.edges.Edge.{Edge as CallersEdge}
use Rattle.cargo_lock_c.specs.Graph.{edge_list, node_edges}

-- so many numbers from a on, and the next one
range-suc : (n a : ℕ) → range_with_len a (suc n) ≡ range_with_len a n ++ (a + n) ∷ []
range-suc zero a = let e : a ≡ a + 0 = omega arith in ap (λ x. x ∷ []) e
range-suc (suc n) a =
    let e : a + 1 + n ≡ a + suc n = omega arith in
    ap (λ l. a ∷ l) (range-suc n (a + 1) ∙ ap (λ x. range_with_len (a + 1) n ++ x ∷ []) e)

-- the edges of the first so many nodes, and those of the next one
pub edge_list-more : (es : List Edge) (n : ℕ) → edge_list es (n + 1) ≡ edge_list es n ++ node_edges es n
edge_list-more es n =
    let next : n + 1 ≡ suc n = omega arith in
    let last : 0 + n ≡ n = omega arith in
    ap (λ (k : ℕ). flat_map (node_edges es) (range_with_len 0 k)) next
    ∙ ap (flat_map (node_edges es)) (range-suc n 0 ∙ ap (λ (k : ℕ). range_with_len 0 n ++ k ∷ []) last)
    ∙ flat_map-append (node_edges es) (range_with_len 0 n) (n ∷ [])
    ∙ ap (λ (more : List CallersEdge). flat_map (node_edges es) (range_with_len 0 n) ++ more) (append-nil (node_edges es n))
