use Rattle.std.proofs.Common.{ℕ, ◌<◌, length, Option, sym, ap, subst, ◌∙◌, arith}
use Rattle.std.specs.Prelude.{IfSome}
use Rattle.cargo_lock_graph.specs.DrawingByLater.{is_any}
use Rattle.cargo_lock_graph.specs.Edges.{far_ends_from}
use Rattle.cargo_lock_graph.proofs.WalkLevels.{coming_children, any_ends}
use Rattle.cargo_lock_graph.proofs.drawing.walk.Walk.goes_on.Goals as goal

pub returns : goal.returns
returns c =
    let walk = c.args.self.now in
    let edges = c.args.graph.now.edges in
    let f : Option ℕ = c.index.result.now in
    let kids = coming_children walk.direction edges walk.visited.items walk.stack.items c.args.depth f (omega (arith, c.requires.depth, walk.stack.ok.0)) in
    let within : c.args.depth < length walk.stack.items = omega (arith, c.requires.depth, walk.stack.ok.0) in
    let known : IfSome f (λ edge. edge < length edges) = subst (λ (g : Option ℕ). IfSome g (λ edge. edge < length edges)) (sym c.index.ensures) (c.requires.on.known c.args.depth f within) in
    c.is_some.ensures ∙ any_ends walk.direction edges f known ∙ ap (λ (g : Option ℕ). is_any (far_ends_from walk.direction edges g)) c.index.ensures ∙ ap is_any (sym kids)
