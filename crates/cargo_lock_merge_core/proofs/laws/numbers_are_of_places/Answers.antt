use Rattle.cargo_lock_merge_core.proofs.Renamed.{merge-renamed}
use Rattle.cargo_lock_merge_core.proofs.laws.numbers_are_of_places.Goals as goal

pub returns : goal.returns
returns c = λ f s m inj h. merge-renamed f s inj m h
