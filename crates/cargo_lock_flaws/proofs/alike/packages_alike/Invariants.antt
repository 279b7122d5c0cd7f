use Rattle.cargo_lock_flaws.specs.Namesakes.{ArePairsBelow, AreSeen}
use Rattle.cargo_lock_flaws.proofs.alike.packages_alike.Given as goal

abbrev pub invariant-loop-place : goal.invariant-loop-place
invariant-loop-place l = record {
  seen : AreSeen l.packages l.place l.seen;
  told : ArePairsBelow l.packages l.place l.pairs.items;
}
