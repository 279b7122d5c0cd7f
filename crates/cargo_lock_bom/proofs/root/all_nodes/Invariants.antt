use Rattle.lists.specs.Places.{IsPlaces}
use Rattle.cargo_lock_bom.proofs.root.all_nodes.Given as goal

abbrev pub invariant-loop-node : goal.invariant-loop-node
invariant-loop-node l = IsPlaces (λ k. Unit {0}) l.node l.nodes.items
