use Rattle.std.proofs.Common.{length}
use Rattle.std.specs.List.{Contains}
use Rattle.lists.specs.Chains.{LeadsToEach}
use Rattle.lists.specs.Reach.{IsSearch, left_count}
use Rattle.cargo_lock_graph.specs.Edges.{far_ends}
use Rattle.cargo_lock_diagram.proofs.reach.marks_from.Given as goal

abbrev pub invariant-loop-place : goal.invariant-loop-place
invariant-loop-place l = IsSearch (Contains l.fn.starts) (LeadsToEach (far_ends l.direction l.graph.edges)) (length l.graph.packages) l.search

abbrev pub decreases-loop-place : goal.decreases-loop-place
decreases-loop-place l = left_count l.search
