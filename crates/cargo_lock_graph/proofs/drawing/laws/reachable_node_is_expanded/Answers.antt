use Rattle.std.proofs.Common.{◌≡◌, ℕ, false, ap, sym, subst, ◌∙◌}
use Rattle.cargo_lock_graph.specs.Drawing.{is_one_of, nodes_of}
use Rattle.cargo_lock_graph.proofs.DrawingFirst.{first_of, one_first}
use Rattle.cargo_lock_graph.proofs.DrawingReach.{reachable_occurs}
use Rattle.cargo_lock_graph.proofs.DrawingWords.{from_words}
use Rattle.cargo_lock_graph.proofs.drawing.laws.reachable_node_is_expanded.Goals as goal

pub returns-clause-some : goal.returns-clause-some
returns-clause-some c far start n es d h =
    let r = first_of n es (reachable_occurs far start es n (from_words far start es d) h) in
    let new = subst (λ (k : ℕ). is_one_of k (nodes_of r.0) ≡ false) (sym r.3.node) r.3.new in
    (r.0, r.1, r.2, r.3, d.expanded r.0 r.2 r.1 r.3.stands new ∙ ap far r.3.node)

pub returns-clause-one : goal.returns-clause-one
returns-clause-one c = one_first
