use Rattle.std.proofs.Common.{◌≡◌, take, map}
use Rattle.cargo_lock_references.specs.WrittenReference.{in_full}
use Rattle.cargo_lock_references.specs.Records.{is_escaped}
use Rattle.cargo_lock_encoding.proofs.encode.all_in_full.Given as goal

abbrev pub invariant-loop-dependency : goal.invariant-loop-dependency
invariant-loop-dependency l = l.references.items ≡ map (in_full (is_escaped l.format)) (take l.dependency-index l.dependencies)
