use Rattle.cargo_lock_flaws.specs.Dependencies.{AreDependenciesBefore}
use Rattle.cargo_lock_flaws.specs.Lost.{IsLostAt}
use Rattle.cargo_lock_flaws.proofs.lost.put_lost.Given as goal

abbrev pub invariant-loop-at : goal.invariant-loop-at
invariant-loop-at l = AreDependenciesBefore (IsLostAt l.groups.packages) l.place l.at l.lost.items
