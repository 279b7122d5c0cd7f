use Rattle.cargo_lock_flaws.specs.Dependencies.{AreDependenciesBefore, IsRepeatedAt}
use Rattle.cargo_lock_flaws.specs.Seen.{AreLastDependencies}
use Rattle.cargo_lock_flaws.proofs.dependencies.put_repeated.Given as goal

abbrev pub invariant-loop-at : goal.invariant-loop-at
invariant-loop-at l = record {
  last : AreLastDependencies l.dependencies l.at l.last;
  told : AreDependenciesBefore (IsRepeatedAt l.packages) l.place l.at l.places.items;
}
