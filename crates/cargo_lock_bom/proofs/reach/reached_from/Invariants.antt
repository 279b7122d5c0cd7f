use Rattle.std.proofs.Common.{◌≡◌, length}
use Rattle.lists.specs.Chains.{LeadsToEach}
use Rattle.lists.specs.Reach.{IsSearch, left_count}
use Rattle.cargo_lock_graph.specs.declared.graph.EdgeDirection.TheVariants.{Outgoing}
use Rattle.cargo_lock_graph.specs.Edges.{far_ends}
use Rattle.cargo_lock_bom.proofs.reach.reached_from.Given as goal

abbrev pub invariant-loop-node : goal.invariant-loop-node
invariant-loop-node l = IsSearch (λ k. k ≡ l.fn.start) (LeadsToEach (far_ends Outgoing l.graph.edges)) (length l.graph.packages) l.search

abbrev pub decreases-loop-node : goal.decreases-loop-node
decreases-loop-node l = left_count l.search
