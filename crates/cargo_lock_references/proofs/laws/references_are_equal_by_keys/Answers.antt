use Rattle.cargo_lock_references.specs.ReferenceLaws.{is_same_reference-Decides}
use Rattle.cargo_lock_references.proofs.laws.references_are_equal_by_keys.Goals as goal

pub returns : goal.returns
returns c = λ a b. is_same_reference-Decides a b
