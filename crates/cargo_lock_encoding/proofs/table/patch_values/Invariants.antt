use Rattle.std.proofs.Common.{◌≡◌, take, map}
use Rattle.toml.specs.View.{view}
use Rattle.cargo_lock_encoding.specs.Table.{unused_patch_value}
use Rattle.cargo_lock_encoding.proofs.table.patch_values.Given as goal

abbrev pub invariant-loop-dependency : goal.invariant-loop-dependency
invariant-loop-dependency l = map view l.values.items ≡ map (unused_patch_value l.escaped) (take l.dependency-index l.unused)
