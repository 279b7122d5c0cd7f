use Rattle.std.proofs.Common.{◌≡◌, true}
use Rattle.lists.specs.Places.{IsPlaces}
use Rattle.cargo_lock_bom.specs.Root.{is_member}
use Rattle.cargo_lock_bom.proofs.root.members.Given as goal

abbrev pub invariant-loop-node : goal.invariant-loop-node
invariant-loop-node l = IsPlaces (λ k. is_member l.graph.packages k ≡ true) l.node l.members.items
