use Rattle.std.proofs.Common.{take}
use Rattle.cargo_lock_graph.specs.Chains.{AreChains}
use Rattle.cargo_lock_graph.proofs.graph.Chains.of.Given as goal

-- the chains of the edges so far
abbrev pub invariant-loop-edge : goal.invariant-loop-edge
invariant-loop-edge l = AreChains l.direction l.count (take l.edge-index l.edge-items) l.newest_edge.items l.older_edge.items
