use Rattle.std.proofs.Common.{◌≡◌, map, string_bytes, take}
use Rattle.cargo_lock_bom.specs.References.{package_reference}
use Rattle.cargo_lock_bom.proofs.reference.references.Given as goal

abbrev pub invariant-loop-node : goal.invariant-loop-node
invariant-loop-node l = map string_bytes l.made.items ≡ map package_reference (take l.node l.graph.packages)
