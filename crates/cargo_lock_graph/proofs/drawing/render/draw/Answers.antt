use Rattle.std.proofs.Common.{ℕ, List, ◌∷◌, Err, refl, sym, ap, subst, ◌∙◌, length}
use Rattle.std.specs.Io.KnownBytes.{Appends}
use Rattle.std.proofs.lemmas.Result.{err_from_is_err_and}
use Rattle.cargo_lock_graph.specs.declared.drawing.entry.Entry.{Entry}
use Rattle.cargo_lock_graph.specs.DrawingMade.{drawing}
use Rattle.cargo_lock_graph.specs.DrawingText.{drawing_text, standard_symbols}
use Rattle.cargo_lock_graph.specs.Edges.{far_ends}
use Rattle.cargo_lock_graph.specs.Labels.{label_at}
use Rattle.cargo_lock_graph.specs.Sinks.{HasFailed}
use Rattle.cargo_lock_graph.specs.WalkState.{to_come}
use Rattle.cargo_lock_graph.proofs.DrawingOfGraph.{drawing_of, text_of_drawing}
use Rattle.cargo_lock_graph.proofs.SinkWrites.{rendered_memory}
use Rattle.cargo_lock_graph.proofs.drawing.render.draw.Goals as goal

pub returns-in_err-walk : goal.returns-in_err-walk
returns-in_err-walk g c =
    let graph = c.args.graph.now in
    let es : List Entry = drawing (far_ends c.args.direction graph.edges) (length graph.packages) c.args.start in
    let p = err_from_is_err_and c.from_residual.result c.from_residual.ensures.1 in (
      es,
      drawing_of c.args.direction graph c.args.start es c.has_both_ends.ensures c.requires.start refl,
      rendered_memory c.from_residual.result _ (drawing_text standard_symbols (label_at c.args.look.now.exact graph.packages) es) (p.1 ∙ ap (λ x. Err x) p.2),
    )

pub returns-in-Ok : goal.returns-in-Ok
returns-in-Ok g c =
    let graph = c.args.graph.now in
    let far : ℕ → List ℕ = far_ends c.args.direction graph.edges in
    let es : List Entry = record { node = c.args.start; depth = 0 } ∷ to_come graph c.in_ok-walk.walk in
    let d = drawing_of c.args.direction graph c.args.start es c.has_both_ends.ensures c.requires.start c.in_ok-walk.ensures.all in
    let text = text_of_drawing far c.args.start es standard_symbols (label_at c.args.look.now.exact graph.packages) d in
    let old = g.T.Target.state c.args.out.now in
    let new = g.T.Target.state c.put_drawing.new.out in
    (es, d, (subst (λ (t : List ℕ). Appends old.bytes new.bytes t) (sym text) c.in-Ok.ensures.0, c.in-Ok.ensures.1))

pub returns : goal.returns
returns g c =
    let graph = c.args.graph.now in
    let far : ℕ → List ℕ = far_ends c.args.direction graph.edges in
    let es : List Entry = record { node = c.args.start; depth = 0 } ∷ to_come graph c.in_ok-walk.walk in
    let d = drawing_of c.args.direction graph c.args.start es c.has_both_ends.ensures c.requires.start c.in_ok-walk.ensures.all in
    let text = text_of_drawing far c.args.start es standard_symbols (label_at c.args.look.now.exact graph.packages) d in
    let old = g.T.Target.state c.args.out.now in
    let new = g.T.Target.state c.put_drawing.new.out in
    (es, d, subst (λ (t : List ℕ). HasFailed old new t) (sym text) c.in-Err.ensures)
