use Rattle.std.proofs.Common.{◌≡◌, map, option_map, take}
use Rattle.cargo_lock_bom.specs.Component.{component_at}
use Rattle.cargo_lock_bom.specs.Options.{license_of}
use Rattle.printing.specs.Json.{extended}
use Rattle.cargo_lock_bom.proofs.Writing.{items_so_far}
use Rattle.cargo_lock_bom.proofs.component.put_components.Given as goal

abbrev pub invariant-loop-node : goal.invariant-loop-node
invariant-loop-node l = l.out ≡ extended l.fn.out (items_so_far (component_at l.components.graph.now (map (option_map license_of) l.components.licenses.now)) (take l.node-index l.nodes))
