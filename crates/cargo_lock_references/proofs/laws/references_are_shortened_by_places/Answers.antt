use Rattle.cargo_lock_references.proofs.WrittenReferenceLemmas.{shorten-by_places}
use Rattle.cargo_lock_references.proofs.laws.references_are_shortened_by_places.Goals as goal

pub returns : goal.returns
returns c = shorten-by_places
