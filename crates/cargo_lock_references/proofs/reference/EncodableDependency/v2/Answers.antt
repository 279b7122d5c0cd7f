use Rattle.cargo_lock_references.proofs.WrittenReferenceLemmas.{shorten-by_places}
use Rattle.cargo_lock_references.proofs.reference.EncodableDependency.v2.Goals as goal

pub returns : goal.returns
returns c = rw c.by_counts.ensures (shorten-by_places _ _)
