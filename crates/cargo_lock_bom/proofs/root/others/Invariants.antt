use Rattle.std.proofs.Common.{◌≡◌, not, take}
use Rattle.std.specs.List.{filter}
use Rattle.cargo_lock_bom.specs.Root.{is_root_at}
use Rattle.cargo_lock_bom.proofs.root.others.Given as goal

abbrev pub invariant-loop-node : goal.invariant-loop-node
invariant-loop-node l = l.nodes.items ≡ filter (λ k. not (is_root_at l.root k)) (take l.node-index l.listed)
