use Rattle.std.proofs.Common.{◌≡◌, ℕ, map, string_bytes, take}
use Rattle.serde_json.specs.Data.{string}
use Rattle.cargo_lock_bom.specs.Contents.{text_at}
use Rattle.printing.specs.Json.{extended}
use Rattle.cargo_lock_bom.proofs.Writing.{items_so_far}
use Rattle.cargo_lock_bom.proofs.dependencies.put_texts.Given as goal

abbrev pub invariant-loop-node : goal.invariant-loop-node
invariant-loop-node l = l.out ≡ extended l.fn.out (items_so_far (λ (k : ℕ). string (text_at (map string_bytes l.texts) k)) (take l.node-index l.nodes))
