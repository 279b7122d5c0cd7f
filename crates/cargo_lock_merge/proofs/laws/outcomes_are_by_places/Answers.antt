use Rattle.cargo_lock_merge.proofs.ByPlaces.{finds-by-places}
use Rattle.cargo_lock_merge.proofs.laws.outcomes_are_by_places.Goals as goal

pub returns : goal.returns
returns c = finds-by-places
