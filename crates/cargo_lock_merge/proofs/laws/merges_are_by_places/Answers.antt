use Rattle.cargo_lock_merge.proofs.ByPlaces.{merges-by-places}
use Rattle.cargo_lock_merge.proofs.laws.merges_are_by_places.Goals as goal

pub returns : goal.returns
returns c = merges-by-places
