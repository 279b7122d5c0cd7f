use Rattle.std.proofs.Common.{◌≡◌, take}
use Rattle.printing.specs.Json.{extended}
use Rattle.cargo_lock_bom.specs.Metadata.{property_object}
use Rattle.cargo_lock_bom.specs.Options.{property_of}
use Rattle.cargo_lock_bom.proofs.Writing.{items_so_far}
use Rattle.cargo_lock_bom.proofs.metadata.put_property_list.Given as goal

abbrev pub invariant-loop-property : goal.invariant-loop-property
invariant-loop-property l = l.out ≡ extended l.fn.out (items_so_far (λ p. property_object (property_of p)) (take l.property-index l.properties))
