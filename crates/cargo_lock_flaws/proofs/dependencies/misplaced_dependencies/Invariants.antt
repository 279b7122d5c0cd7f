use Rattle.cargo_lock_flaws.specs.Dependencies.{AreDependenciesBefore, IsDependencyMisplacedAt}
use Rattle.cargo_lock_flaws.proofs.dependencies.misplaced_dependencies.Given as goal

abbrev pub invariant-loop-place : goal.invariant-loop-place
invariant-loop-place l = AreDependenciesBefore (IsDependencyMisplacedAt l.packages) l.place 0 l.places.items
