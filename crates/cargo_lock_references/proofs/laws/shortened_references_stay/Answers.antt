use Rattle.cargo_lock_references.proofs.WrittenReferenceLemmas.{shorten-twice}
use Rattle.cargo_lock_references.proofs.laws.shortened_references_stay.Goals as goal

pub returns : goal.returns
returns c = shorten-twice
