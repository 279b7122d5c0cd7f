use Rattle.cargo_lock_flaws.specs.Dependencies.{IsListedBefore}
use Rattle.cargo_lock_flaws.proofs.DependencyPlaces.{all}
use Rattle.cargo_lock_flaws.proofs.dependencies.repeated_dependencies.Goals as goal

pub returns : goal.returns
returns c = all IsListedBefore c.args.packages.now c.loop-place.place c.loop-place.places.items c.loop-place-test.false c.loop-place.invariant
