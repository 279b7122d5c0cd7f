use Rattle.std.proofs.Common.{ℕ, List, [], ◌∷◌, ◌++◌, refl}
use Rattle.cargo_lock_graph.specs.DrawingByLater.{prefix_by_later}
use Rattle.cargo_lock_graph.specs.DrawingText.{standard_symbols}
use Rattle.cargo_lock_graph.specs.Labels.{label_at}
use Rattle.cargo_lock_graph.specs.WalkState.{to_come}
use Rattle.cargo_lock_graph.proofs.SinkWrites.{fault_of, written_of}
use Rattle.cargo_lock_graph.proofs.drawing.render.put_line.Goals as goal

pub returns-in_err-put_prefix : goal.returns-in_err-put_prefix
returns-in_err-put_prefix g c =
    let graph = c.args.graph.now in
    let e = c.args.entry in
    let prefix : List ℕ = prefix_by_later standard_symbols e.depth (to_come graph c.args.walk.now) in
    let rest : List ℕ = label_at c.args.look.now.exact graph.packages e.node ++ 10 ∷ [] in
    fault_of c.from_residual.result _ _ (prefix ++ rest) prefix rest c.from_residual.ensures.0 refl c.in_err-put_prefix.ensures

pub returns : goal.returns
returns g c =
    let graph = c.args.graph.now in
    let e = c.args.entry in
    let prefix : List ℕ = prefix_by_later standard_symbols e.depth (to_come graph c.args.walk.now) in
    let rest : List ℕ = label_at c.args.look.now.exact graph.packages e.node ++ 10 ∷ [] in
    written_of c.put_node.result _ _ _ (prefix ++ rest) prefix rest refl c.in_ok-put_prefix.ensures.0 c.in_ok-put_prefix.ensures.1 (rw (c.new.ensures) at c.put_node.ensures)
