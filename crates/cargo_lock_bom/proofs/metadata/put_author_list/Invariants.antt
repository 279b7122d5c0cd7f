use Rattle.std.proofs.Common.{◌≡◌, take}
use Rattle.printing.specs.Json.{extended}
use Rattle.cargo_lock_bom.specs.Metadata.{author_of}
use Rattle.cargo_lock_bom.proofs.Writing.{items_so_far}
use Rattle.cargo_lock_bom.proofs.metadata.put_author_list.Given as goal

abbrev pub invariant-loop-name : goal.invariant-loop-name
invariant-loop-name l = l.out ≡ extended l.fn.out (items_so_far (λ name. author_of name.now) (take l.name-index l.names))
