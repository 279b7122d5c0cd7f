use Rattle.cargo_lock_flaws.specs.Dependencies.{AreDependenciesBefore, IsRepeatedAt}
use Rattle.cargo_lock_flaws.proofs.dependencies.repeated_dependencies.Given as goal

abbrev pub invariant-loop-place : goal.invariant-loop-place
invariant-loop-place l = AreDependenciesBefore (IsRepeatedAt l.packages) l.place 0 l.places.items
