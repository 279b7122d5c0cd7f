use Rattle.std.proofs.Common.{◌≡◌, take}
use Rattle.cargo_lock_merge_core.specs.Reach.{places_in}
use Rattle.cargo_lock_merge_core.proofs.reach.places_of_nodes.Given as goal

abbrev pub invariant-loop-node : goal.invariant-loop-node
invariant-loop-node l = l.places.items ≡ places_in (take l.node-index l.nodes)
