use Rattle.std.proofs.Common.{◌≡◌, ◌∙◌, rules, sym}
use Rattle.cargo_lock_c.specs.Graph.{IsEdgeList}
use Rattle.cargo_lock_c.proofs.HandedOut.{handed-answer}
use Rattle.cargo_lock_c.proofs.edges.cargo_lock_edges.Goals as goal

pub returns-in-Ok-clause-edges : goal.returns-in-Ok-clause-edges
returns-in-Ok-clause-edges c =
    let same : c.as_slice.result.now ≡ c.in-Ok.edges.items = search rules in
    handed-answer (IsEdgeList c.args.text.now) c.as_slice.result.now _ _ _ _ _
    (rw same c.in-Ok.ensures.ok) c.hand_out.ensures.handed

pub returns-in-Err-clause-unresolved : goal.returns-in-Err-clause-unresolved
returns-in-Err-clause-unresolved c = λ seven. c.in-Err.ensures.unresolved (sym c.status.ensures ∙ seven)
