use Rattle.std.proofs.Common.{[], ◌∷◌, ◌++◌}
use Rattle.cargo_lock_query.specs.Steps.{met_by}
use Rattle.lists.proofs.Members.{joined-next}
use Rattle.cargo_lock_query.proofs.Counting.{starts-all, starts-next}
use Rattle.cargo_lock_query.proofs.steps.Search.meet_needers.Goals as goal

pub loop-edge-preserved : goal.loop-edge-preserved
loop-edge-preserved c = let a = c.in-Some.ensures.steps in let (front, joined, counted) = c.loop-edge.invariant.2 in (
  tt,
  tt,
  (
    front ++ c.in-Some.edge ∷ [],
    joined-next front c.in-Some.edge c.next.new.self _ _ a joined,
    starts-next front c.in-Some.edge c.source.result c.args.steps (met_by c.args.self.now) (met_by c.loop-edge.self) (met_by c.meet.new.self) c.source.ensures counted c.in_ok-meet.ensures,
  ),
)

pub returns : goal.returns
returns c = let a = c.in-None.ensures.steps in let (front, joined, counted) = c.loop-edge.invariant.2 in
    starts-all c.args.graph.now c.args.node front _ c.args.steps (met_by c.args.self.now) (met_by c.loop-edge.self) a.0 joined counted
