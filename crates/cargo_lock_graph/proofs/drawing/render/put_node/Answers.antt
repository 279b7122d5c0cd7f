use Rattle.std.proofs.Common.{◌≡◌, ℕ, List, Bool, true, [], ◌∷◌, ◌++◌, ap, ◌∙◌}
use Rattle.cargo_lock_graph.specs.Labels.{label_at, label_of}
use Rattle.cargo_lock_graph.proofs.RenderWrites.{label_is}
use Rattle.cargo_lock_graph.proofs.SinkWrites.{fault_of, written_of}
use Rattle.cargo_lock_graph.proofs.drawing.render.put_node.Goals as goal

pub returns-in_err-put_exact_label : goal.returns-in_err-put_exact_label
returns-in_err-put_exact_label g c =
    let packages = c.args.graph.now.packages in
    let one = c.index-package.result.now in
    let is : label_at c.args.exact packages c.args.node ≡ label_of true one = label_is c.args.exact packages c.args.node one c.index-package.ensures ∙ ap (λ (b : Bool). label_of b one) c.if-not-exact.false in
    fault_of c.from_residual.result _ _ (label_at c.args.exact packages c.args.node ++ 10 ∷ []) (label_of true one) (10 ∷ []) c.from_residual.ensures.0 (ap (λ (t : List ℕ). t ++ 10 ∷ []) is) c.in_err-put_exact_label.ensures

pub returns : goal.returns
returns g c =
    let packages = c.args.graph.now.packages in
    let one = c.index-package.result.now in
    let is : label_at c.args.exact packages c.args.node ≡ label_of true one = label_is c.args.exact packages c.args.node one c.index-package.ensures ∙ ap (λ (b : Bool). label_of b one) c.if-not-exact.false in
    written_of c.put_all.result _ _ _ (label_at c.args.exact packages c.args.node ++ 10 ∷ []) (label_of true one) (10 ∷ []) (ap (λ (t : List ℕ). t ++ 10 ∷ []) is) c.in_ok-put_exact_label.ensures.0 c.in_ok-put_exact_label.ensures.1 c.put_all.ensures
