use Rattle.cargo_lock_encoding.proofs.MeansLemmas.{Means-one}
use Rattle.cargo_lock.proofs.laws.table_means_one.Goals as goal

pub returns : goal.returns
returns c = Means-one
