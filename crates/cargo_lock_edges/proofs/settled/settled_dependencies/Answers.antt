use Rattle.cargo_lock_graph.proofs.Zipped.{zip-next}
use Rattle.cargo_lock_edges.specs.Settled.{IsSettledAs}
use Rattle.cargo_lock_edges.proofs.settled.settled_dependencies.Goals as goal

pub loop-dependency-preserved : goal.loop-dependency-preserved
loop-dependency-preserved c =
    zip-next (IsSettledAs c.args.groups.now.packages) c.args.dependencies.now
    c.loop-dependency.dependency-index c.dependency-item.result c.loop-dependency.settled.items
    c.push.new.self.items _ c.loop-dependency-test.true c.dependency-item.is
    c.loop-dependency.invariant c.in_ok-settled_dependency.ensures.ok c.in_ok-push.ensures.items
