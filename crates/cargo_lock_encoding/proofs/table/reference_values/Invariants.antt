use Rattle.std.proofs.Common.{◌≡◌, take, map}
use Rattle.toml.specs.View.{view}
use Rattle.cargo_lock_encoding.specs.Table.{reference_value}
use Rattle.cargo_lock_encoding.proofs.table.reference_values.Given as goal

abbrev pub invariant-loop-reference : goal.invariant-loop-reference
invariant-loop-reference l = map view l.values.items ≡ map reference_value (take l.reference-index l.references)
