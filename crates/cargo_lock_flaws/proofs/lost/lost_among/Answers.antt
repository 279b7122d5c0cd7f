use Rattle.cargo_lock_graph.specs.Targets.{IsLost}
use Rattle.cargo_lock_flaws.specs.Dependencies.{HoldsOfDependency}
use Rattle.cargo_lock_flaws.proofs.DependencyPlaces.{all}
use Rattle.cargo_lock_flaws.proofs.lost.lost_among.Goals as goal

pub returns : goal.returns
returns c = all (HoldsOfDependency (IsLost c.args.packages.now)) c.args.packages.now
    c.loop-place.place c.loop-place.lost.items c.loop-place-test.false c.loop-place.invariant
