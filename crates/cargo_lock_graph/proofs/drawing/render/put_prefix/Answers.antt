use Rattle.std.proofs.Common.{◌≡◌, ◌-◌, ℕ, List, ◌∙◌, arith, subst}
use Rattle.std.specs.Io.KnownBytes.{Appends}
use Rattle.cargo_lock_graph.specs.DrawingByLater.{goes_on, levels_text, prefix_by_later}
use Rattle.cargo_lock_graph.specs.DrawingText.{branch_text, standard_symbols}
use Rattle.cargo_lock_graph.specs.Sinks.{HasFailed}
use Rattle.cargo_lock_graph.specs.WalkState.{to_come}
use Rattle.cargo_lock_graph.proofs.SinkWrites.{fault_of, written_of}
use Rattle.cargo_lock_graph.proofs.RenderWrites.{prefix_is}
use Rattle.cargo_lock_graph.proofs.drawing.render.put_prefix.Goals as goal

pub returns-in_err-put_all : goal.returns-in_err-put_all
returns-in_err-put_all g c =
    let s = standard_symbols in
    let later = to_come c.args.graph.now c.args.walk.now in
    let n = c.args.depth in
    let levels : c.levels_above.result.now ≡ levels_text s (n - 1) later = c.levels_above.ensures ∙ c.requires.above.text_is in
    fault_of c.from_residual.result _ _ (prefix_by_later s n later) (levels_text s (n - 1) later) (branch_text s (goes_on (n - 1) later)) c.from_residual.ensures.0 (prefix_is s n later (omega arith))
    (subst (λ (t : List ℕ). HasFailed (g.T.Target.state c.args.out.now) (g.T.Target.state c.put_all.new.out) t) levels c.in_err-put_all.ensures)

pub returns : goal.returns
returns g c =
    let s = standard_symbols in
    let later = to_come c.args.graph.now c.args.walk.now in
    let n = c.args.depth in
    let levels : c.levels_above.result.now ≡ levels_text s (n - 1) later = c.levels_above.ensures ∙ c.requires.above.text_is in
    let taken = subst (λ (t : List ℕ). Appends (g.T.Target.state c.args.out.now).bytes (g.T.Target.state c.put_all.new.out).bytes t) levels c.in_ok-put_all.ensures.0 in
    written_of c.put_branch.result _ _ _ (prefix_by_later s n later) (levels_text s (n - 1) later) (branch_text s (goes_on (n - 1) later)) (prefix_is s n later (omega arith)) taken c.in_ok-put_all.ensures.1 (rw (c.goes_on.ensures) at c.put_branch.ensures)
