use Rattle.std.proofs.Common.{map, take}
use Rattle.std.specs.List.{AllZip}
use Rattle.cargo_lock_bom.specs.Contents.{entry_for}
use Rattle.cargo_lock_bom.specs.Dependencies.{IsNodeEntry}
use Rattle.cargo_lock_bom.proofs.dependencies.node_entries.Given as goal

abbrev pub invariant-loop-node : goal.invariant-loop-node
invariant-loop-node l = AllZip (IsNodeEntry l.graph) (take l.node-index l.nodes) (map (entry_for l.graph.packages) l.made.items)
