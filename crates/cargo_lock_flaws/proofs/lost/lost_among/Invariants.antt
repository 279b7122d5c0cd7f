use Rattle.cargo_lock_flaws.specs.Dependencies.{AreDependenciesBefore}
use Rattle.cargo_lock_flaws.specs.Lost.{IsLostAt}
use Rattle.cargo_lock_flaws.proofs.lost.lost_among.Given as goal

abbrev pub invariant-loop-place : goal.invariant-loop-place
invariant-loop-place l = AreDependenciesBefore (IsLostAt l.packages) l.place 0 l.lost.items
