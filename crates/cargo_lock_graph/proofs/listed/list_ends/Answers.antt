use Rattle.std.proofs.Common.{◌≡◌, ◌<◌, ℕ, List, ap, length, map, subst, sym}
use Rattle.std.specs.List.{All}
use Rattle.cargo_lock_graph.specs.Edges.{edges_at, far_end, far_ends}
use Rattle.cargo_lock_graph.proofs.Listing.{listed-all, listed-more, listed-none}
use Rattle.cargo_lock_graph.proofs.WalkSteps.{below_far}
use Rattle.cargo_lock_graph.proofs.listed.list_ends.Goals as goal

pub loop-edge-init : goal.loop-edge-init
loop-edge-init c =
    let far = far_end c.args.direction in
    let all : c.into_iter-edge-iterator.result ≡ edges_at c.args.direction c.args.graph.now.edges c.args.node = cc in
    (tt, tt, listed-none far c.in_ok-ends.ends.items _ c.into_iter-edge-iterator.result c.in_ok-ends.ensures.items (ap (map far) all))

pub loop-edge-preserved : goal.loop-edge-preserved
loop-edge-preserved c =
    let far = far_end c.args.direction in
    let steps = c.in-Some.ensures.steps in (
      tt,
      tt,
      listed-more far c.loop-edge.ends.items c.push.new.self.items _ c.loop-edge.edge-iterator c.next.new.self c.in-Some.edge c.far_end.result steps c.far_end.ensures c.in_ok-push.ensures.items c.loop-edge.invariant.2,
    )

pub returns-clause-are : goal.returns-clause-are
returns-clause-are c =
    let steps = c.in-None.ensures.steps in
    listed-all (far_end c.args.direction) c.loop-edge.ends.items _ c.loop-edge.edge-iterator steps.0 c.loop-edge.invariant.2

pub returns-clause-within : goal.returns-clause-within
returns-clause-within c =
    let graph = c.args.graph.now in
    let steps = c.in-None.ensures.steps in
    let are = listed-all (far_end c.args.direction) c.loop-edge.ends.items (far_ends c.args.direction graph.edges c.args.node) c.loop-edge.edge-iterator steps.0 c.loop-edge.invariant.2 in
    subst (λ (ks : List ℕ). All (λ k. k < length graph.packages) ks) (sym are)
    (below_far c.args.direction graph.edges (length graph.packages) c.has_both_ends.ensures c.args.node)
