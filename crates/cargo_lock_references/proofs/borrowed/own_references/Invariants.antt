use Rattle.std.proofs.Common.{◌≡◌, take}
use Rattle.cargo_lock_references.proofs.borrowed.own_references.Given as goal

abbrev pub invariant-loop-reference : goal.invariant-loop-reference
invariant-loop-reference l = l.copies.items ≡ take l.reference-index l.references
