use Rattle.std.proofs.Common.{ℕ, ◌<◌}
use Rattle.cargo_lock_graph.specs.Targets.{MatchesAt}
use Rattle.cargo_lock_edges.proofs.groups.Groups.best_group.Given as goal

-- no package matches with a lesser rank
abbrev pub invariant-loop-rank : goal.invariant-loop-rank
invariant-loop-rank l = (k other : ℕ) → other < l.rank → ¬ MatchesAt l.self.packages l.dependency k
    other
