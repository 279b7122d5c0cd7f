use Rattle.std.proofs.Common.{◌≡◌, map, string_bytes, take}
use Rattle.cargo_lock_bom.specs.Contents.{entry_by}
use Rattle.printing.specs.Json.{extended}
use Rattle.cargo_lock_bom.proofs.Writing.{items_so_far}
use Rattle.cargo_lock_bom.proofs.dependencies.put_entries.Given as goal

abbrev pub invariant-loop-entry : goal.invariant-loop-entry
invariant-loop-entry l = l.out ≡ extended l.fn.out (items_so_far (entry_by (map string_bytes l.texts)) (take l.entry-index l.entries))
