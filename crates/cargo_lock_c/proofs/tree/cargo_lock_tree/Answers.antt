use Rattle.std.proofs.Common.{◌≡◌, ◌∙◌, cond, rules, sym}
use Rattle.cargo_lock_graph.specs.declared.graph.EdgeDirection.TheVariants.{Incoming, Outgoing}
use Rattle.cargo_lock_c.specs.Graph.{IsTreeText}
use Rattle.cargo_lock_c.proofs.HandedOut.{handed-answer}
use Rattle.cargo_lock_c.proofs.tree.cargo_lock_tree.Goals as goal

pub returns-in-Ok-clause-tree : goal.returns-in-Ok-clause-tree
returns-in-Ok-clause-tree c =
    let same : c.as_slice.result.now ≡ c.in-Ok.drawing.items = search rules in
    let told : IsTreeText c.args.text.now c.args.number (cond c.args.inverted Incoming Outgoing) c.args.exact c.as_slice.result.now = rw (same, ← c.of_tree.ensures, ← c.new-node.ensures) c.in-Ok.ensures.ok in
    handed-answer (IsTreeText c.args.text.now c.args.number (cond c.args.inverted Incoming Outgoing) c.args.exact) c.as_slice.result.now _ _ _ _ _
    told c.hand_out.ensures.handed

pub returns-in-Err-clause-unresolved : goal.returns-in-Err-clause-unresolved
returns-in-Err-clause-unresolved c = λ seven. c.in-Err.ensures.unresolved (sym c.status.ensures ∙ seven)

pub returns-in-Err-clause-no_package : goal.returns-in-Err-clause-no_package
returns-in-Err-clause-no_package c = λ eight. rw (← c.new-node.ensures) (c.in-Err.ensures.no_package (sym c.status.ensures ∙ eight))
