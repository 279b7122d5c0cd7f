use Rattle.std.proofs.Common.{take}
use Rattle.cargo_lock_graph.specs.Candidates.{IsBestAmong}
use Rattle.cargo_lock_graph.proofs.targets.best_among.Given as goal

-- the best of the entries so far
abbrev pub invariant-loop-entry : goal.invariant-loop-entry
invariant-loop-entry l = IsBestAmong l.packages l.dependency (take l.entry-index l.entries) l.best
