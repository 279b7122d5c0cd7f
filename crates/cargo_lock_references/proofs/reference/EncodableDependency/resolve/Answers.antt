use Rattle.cargo_lock_references.proofs.ResolvesToLemmas.{Finds-resolution_of}
use Rattle.cargo_lock_references.proofs.reference.EncodableDependency.resolve.Goals as goal

pub returns : goal.returns
returns c = Finds-resolution_of _ _ c.dependency_in.result c.dependency_in.ensures
