use Rattle.std.proofs.Common.{ℕ, take}
use Rattle.std.specs.List.{Contains}
use Rattle.cargo_lock_graph.specs.Targets.{MatchesAt}
use Rattle.cargo_lock_edges.proofs.groups.Groups.group_with_match.Given as goal

-- no package at the places so far matches
abbrev pub invariant-loop-place : goal.invariant-loop-place
invariant-loop-place l = (k : ℕ) → Contains (take l.place-index l.place-items) k
    → ¬ MatchesAt l.self.packages l.dependency k l.rank
