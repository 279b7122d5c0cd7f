use Rattle.std.proofs.Common.{◌≡◌, take, map}
use Rattle.cargo_lock_parts.specs.Identity.{identity_of}
use Rattle.cargo_lock_references.specs.WrittenReference.{written_reference}
use Rattle.cargo_lock_encoding.proofs.encode.written_references.Given as goal

abbrev pub invariant-loop-dependency : goal.invariant-loop-dependency
invariant-loop-dependency l = l.references.items ≡ map (written_reference l.format (map identity_of l.list)) (take l.dependency-index l.dependencies)
