use Rattle.cargo_lock_flaws.specs.Dependencies.{AreDependenciesBefore, IsDependencyMisplacedAt}
use Rattle.cargo_lock_flaws.proofs.dependencies.put_misplaced.Given as goal

abbrev pub invariant-loop-at : goal.invariant-loop-at
invariant-loop-at l = AreDependenciesBefore (IsDependencyMisplacedAt l.packages) l.place l.at l.places.items
